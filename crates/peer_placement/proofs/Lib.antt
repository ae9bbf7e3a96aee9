pub mod Ordering
pub mod Rows
