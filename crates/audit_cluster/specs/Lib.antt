pub mod Audits
pub mod Following
pub mod Moments
