pub mod Admissions
pub mod Enough
