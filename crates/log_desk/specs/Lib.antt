pub mod Desks
pub mod Keeping
pub mod Pens
