mod Cutting
mod Decimals
mod Grammar
mod Spaces
