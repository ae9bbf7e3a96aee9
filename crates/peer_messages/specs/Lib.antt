pub mod Messages
pub mod Limits
pub mod Reading
pub mod Filling
pub mod Faults
