pub mod Asides
pub mod Crews
pub mod Keeping
pub mod Over
pub mod Reads
pub mod Scribing
pub mod Visits
