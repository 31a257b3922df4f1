mod Admitted
mod Agreeing
mod Answered
mod Begins
pub mod CountFacts
pub mod Counting
mod Counts
pub mod Differing
pub mod EntryFacts
mod JobLinks
mod LayerTokens
mod Offers
pub mod OnceFacts
mod Rising
pub mod RunLists
pub mod SameCompat
