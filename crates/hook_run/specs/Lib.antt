pub mod Decisions
pub mod Lending
pub mod Newest
pub mod Resolving
pub mod Rooms
