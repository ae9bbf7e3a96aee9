pub mod Peering
