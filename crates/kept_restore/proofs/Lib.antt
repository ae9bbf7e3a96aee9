mod Merging
mod Loaded
mod Fronts
mod Standing
mod Acknowledged
mod Placed
pub mod Sent
