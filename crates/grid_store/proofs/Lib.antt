mod ListFacts
pub mod OrderFacts
mod PackedFacts
mod GroupFacts
mod MarkFacts
mod PartFacts
mod RangeFacts
mod TopFacts
mod GreatestFacts
mod RecordFacts
mod MakingFacts
