pub mod Partial
pub mod Walk
pub mod WorkedTree
pub mod Bounded
-- for private contracts alone
pub mod FilledNumbers
pub mod Room
pub mod RootOrder
