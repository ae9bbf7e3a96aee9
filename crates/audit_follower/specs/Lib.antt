pub mod Waiting
pub mod Stops
