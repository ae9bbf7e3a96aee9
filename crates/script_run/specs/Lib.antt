pub mod Printing
pub mod Dumping
pub mod Loading
