mod Entries
pub mod Calls
pub mod Vnodes
pub mod Stand
pub mod Counts
pub mod Differ
pub mod HandedOut
pub mod Journals
pub mod Sent
