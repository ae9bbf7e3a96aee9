pub mod Prefixes
mod Adding
