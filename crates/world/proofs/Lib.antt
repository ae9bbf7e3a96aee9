pub mod Lists
pub mod Causal
pub mod Shown
pub mod Numbers
pub mod Steps
pub mod Loads
pub mod Equal
pub mod Parted
pub mod Stamped
pub mod StampRows
pub mod Merging
pub mod Runs
pub mod LoadRuns
pub mod Dumps
pub mod Renamed
pub mod Sources
pub mod Whole
pub mod Beginnings
mod Merges
mod Dumping
