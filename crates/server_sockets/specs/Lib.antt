pub mod Limits
pub mod Looks
pub mod Orders
pub mod Shows
pub mod Streams
pub mod Work
