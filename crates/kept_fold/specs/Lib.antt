pub mod Merging
pub mod Stale
pub mod Folds
