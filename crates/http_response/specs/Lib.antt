pub mod Parts
pub mod Marks
pub mod Known
pub mod Answer
pub mod View
