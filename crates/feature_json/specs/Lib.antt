pub mod Numbers
pub mod Shape
pub mod Tiles
pub mod Own
pub mod Said
-- for private contracts alone
pub mod Reading
