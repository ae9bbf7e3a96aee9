pub mod Bound
pub mod Named
