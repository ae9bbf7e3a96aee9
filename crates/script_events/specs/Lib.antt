pub mod Scripts
pub mod Asking
