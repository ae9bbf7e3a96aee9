pub mod Trimmed
pub mod Parts
pub mod Counting
pub mod Spelled
mod Dumping
mod Loading
mod Telling
