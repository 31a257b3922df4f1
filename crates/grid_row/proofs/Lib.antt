pub mod PackedFacts
pub mod Lengths
mod Fields
mod Records
mod Stays
mod RowSteps
mod KeptFacts
mod ListSteps
