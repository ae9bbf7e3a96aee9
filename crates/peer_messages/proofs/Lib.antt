pub mod Listing
pub mod Order
pub mod PartFormats
pub mod Questions
pub mod Told
