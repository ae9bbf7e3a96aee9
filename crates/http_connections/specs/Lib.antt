pub mod Sockets
pub mod Spoken
pub mod Unsent
pub mod Halls
pub mod Full
pub mod Clients
