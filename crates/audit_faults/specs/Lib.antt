pub mod Codes
pub mod Unsaid
