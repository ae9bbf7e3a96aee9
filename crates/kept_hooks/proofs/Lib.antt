pub mod Stands
pub mod Begins
