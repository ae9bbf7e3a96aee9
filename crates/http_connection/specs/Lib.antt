pub mod Device
pub mod Streams
pub mod Room
pub mod Waiting
pub mod Talking
pub mod Pending
pub mod Dialogue
pub mod Turns
