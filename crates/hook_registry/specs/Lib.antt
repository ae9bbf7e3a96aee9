pub mod Bindings
pub mod Changes
pub mod Names
pub mod Tables
