pub mod Seals
pub mod Reads
pub mod Numbers
pub mod Settings
pub mod Steps
pub mod Faults
pub mod Ends
pub mod Starts
