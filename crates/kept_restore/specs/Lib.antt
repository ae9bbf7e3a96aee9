pub mod Loads
pub mod Beginnings
