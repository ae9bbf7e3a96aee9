pub mod Faults
pub mod Rules
pub mod Reach
