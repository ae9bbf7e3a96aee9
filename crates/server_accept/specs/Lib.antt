pub mod Waiting
pub mod Rests
pub mod Endings
pub mod Lines
