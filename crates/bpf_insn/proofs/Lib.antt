pub mod Forms
pub mod Opcodes
pub mod Told
pub mod Growing
pub mod Rebuilt
pub mod Spelled
pub mod Unbroken
pub mod Paired
