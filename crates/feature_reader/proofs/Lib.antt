mod CollectedFacts
mod Tables
mod Rows
mod LayerRange
mod OwnTexts
mod RowFacts
mod Rising
mod PhraseFacts
mod Levels
mod FeatureFacts
mod WorkedFeatures
mod WorkedRows
mod LanguageFacts
mod OwnCodes
mod WorkedLanguages
pub mod Zooms
pub mod OfHead
