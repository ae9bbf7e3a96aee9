pub mod Telling
pub mod Clauses
pub mod Dumps
pub mod Loads
