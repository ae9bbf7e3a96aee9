pub mod Answers
pub mod Calls
pub mod Gathers
pub mod GatherFaults
