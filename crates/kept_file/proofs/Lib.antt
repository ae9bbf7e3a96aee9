mod Above
mod Made
mod Ending
mod Held
mod Asked
mod Standing
