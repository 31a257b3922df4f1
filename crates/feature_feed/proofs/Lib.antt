mod CsvFacts
mod CsvFeedFacts
mod FeedLines
mod Filled
pub mod ItemZooms
mod LinesLeft
mod LoadOf
mod OneLoad
mod TakingFacts
mod ToldBefore
