pub mod Ascii
pub mod AsciiTokens
mod FirstByte
pub mod FirstPlace
mod Joins
mod KeyTokens
pub mod LineFeeds
pub mod Lists
pub mod Replaced
pub mod SplitParts
mod TokenMaps
mod TokenWalks
mod WordFacts
pub mod Words
