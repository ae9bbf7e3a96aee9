pub mod Rules
pub mod Lists
