pub mod Firsts
pub mod Rising
pub mod Sorting
pub mod Ran
pub mod Steps
pub mod Next
mod Legal
mod Keeping
pub mod Names
pub mod Opening
mod Grown
mod Moments
mod Ordered
mod Answered
mod Going
mod Telling
pub mod Staying
mod Fronts
pub mod Faultless
pub mod Rows
