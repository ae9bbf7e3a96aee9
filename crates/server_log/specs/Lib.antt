pub mod Notes
pub mod Rations
