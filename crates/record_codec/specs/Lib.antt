pub mod Reading
pub mod Records
pub mod Lists
