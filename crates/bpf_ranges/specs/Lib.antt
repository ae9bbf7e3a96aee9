pub mod KnownBits
pub mod Numbers
pub mod Comparisons
pub mod Kinds
pub mod Words
pub mod Transfer
pub mod Laws
