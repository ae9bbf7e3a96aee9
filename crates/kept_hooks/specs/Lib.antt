pub mod Spelling
pub mod Lists
pub mod Standing
pub mod Replays
pub mod Alone
pub mod Recorded
