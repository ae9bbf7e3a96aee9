pub mod Growing
pub mod ReadLines
pub mod Asked
