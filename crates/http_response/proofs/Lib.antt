mod Delimiters
mod Ends
mod Fronts
mod Least
mod Pieces
pub mod Rows
