pub mod Files
pub mod Numbers
pub mod Snapshots
pub mod Placed
pub mod Logs
