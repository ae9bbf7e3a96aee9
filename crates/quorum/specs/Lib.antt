pub mod Faults
pub mod Gets
pub mod Judged
pub mod Puts
pub mod Resolves
