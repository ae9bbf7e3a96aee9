pub mod Exchanges
pub mod Repairs
