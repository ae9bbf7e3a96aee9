pub mod Calls
pub mod Changes
pub mod View
pub mod Gives
pub mod Noting
