pub mod Looks
pub mod Words
pub mod Texts
pub mod Answered
pub mod Explained
