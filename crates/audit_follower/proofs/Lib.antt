pub mod Turns
mod Bytes
