pub mod Alike
pub mod Refusals
