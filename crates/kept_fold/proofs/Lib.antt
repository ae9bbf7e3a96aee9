pub mod Steps
pub mod Longs
pub mod Lasts
pub mod Numbered
pub mod Mapped
pub mod Shares
pub mod Found
pub mod Standing
