pub mod Questions
pub mod Asking
