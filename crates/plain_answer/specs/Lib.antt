pub mod Match
pub mod Links
pub mod Count
pub mod Answering
-- for private contracts alone
pub mod Offered
