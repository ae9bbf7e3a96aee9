pub mod Stepped
pub mod Running
pub mod Called
pub mod Settled
pub mod LowRuns
