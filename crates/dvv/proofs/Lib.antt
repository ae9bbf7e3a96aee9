pub mod Clocks
pub mod Searches
pub mod Walks
