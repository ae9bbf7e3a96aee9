pub mod Frames
pub mod Fronts
pub mod Sealing
pub mod Hellos
