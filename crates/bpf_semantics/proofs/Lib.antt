pub mod Once
pub mod Bytes
pub mod Kept
