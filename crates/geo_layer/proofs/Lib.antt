pub mod Each
pub mod SameBytes
mod CodeFacts
mod Compatible
mod StackBits
mod LayerFacts
mod TokenFacts
