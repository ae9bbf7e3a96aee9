pub mod Probing
pub mod Putting
pub mod Hashes
