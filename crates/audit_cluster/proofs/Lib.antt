mod Lists
mod Counts
mod Taken
mod Left
mod Ends
pub mod Happening
pub mod Rows
pub mod Sent
