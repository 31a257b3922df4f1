pub mod Machine
pub mod Covers
pub mod Claims
pub mod Merging
pub mod Hand
pub mod Alone
pub mod Kept
pub mod Saying
pub mod WorkedSearches
-- for private contracts alone
pub mod Shown
pub mod Staged
pub mod KeptCells
