mod TileTexts
mod Turns
mod Objects
mod Owned
mod Noted
mod Listed
pub mod Ordered
