pub mod Newest
pub mod Resolved
pub mod Shown
