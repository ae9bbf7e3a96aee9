pub mod Modular
pub mod Slots
pub mod Held
pub mod NamedRuns
mod Worked
