pub mod Entries
pub mod Order
pub mod Records
pub mod Examples
-- for private contracts alone
pub mod Packing
pub mod Marks
pub mod Tops
pub mod Parts
pub mod Stored
