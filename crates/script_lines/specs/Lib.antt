pub mod Lines
pub mod Grammar
pub mod Commands
pub mod Spelling
