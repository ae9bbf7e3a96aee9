pub mod Devices
pub mod LogFiles
pub mod Outcomes
