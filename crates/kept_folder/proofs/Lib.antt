mod Seals
mod Reading
mod Logging
mod Naming
mod Putting
mod Storing
mod Setting
mod Tearing
