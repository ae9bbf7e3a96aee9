pub mod Bits
pub mod Padding
