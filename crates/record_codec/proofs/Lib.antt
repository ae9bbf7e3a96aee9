pub mod Bodies
pub mod Chains
pub mod Fields
pub mod Formats
pub mod Frames
pub mod Sizes
pub mod Spelled
