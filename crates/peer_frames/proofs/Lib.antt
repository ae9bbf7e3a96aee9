pub mod Framing
pub mod HelloLemmas
pub mod Opening
