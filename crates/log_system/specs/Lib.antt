pub mod Calls
pub mod Logs
