pub mod Led
pub mod Names
pub mod Courses
