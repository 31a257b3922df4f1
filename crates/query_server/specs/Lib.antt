pub mod Generations
pub mod Search
pub mod Plain
pub mod Promise
pub mod Examples
-- for private contracts alone
pub mod Running
