pub mod Rows
pub mod Packed
pub mod Spelling
pub mod Reading
pub mod Examples
-- for private contracts alone
pub mod Kept
