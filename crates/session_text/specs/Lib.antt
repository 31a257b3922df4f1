pub mod Lines
pub mod Events
pub mod Session
pub mod Reading
pub mod Reply
pub mod Status
pub mod Examples
-- for private contracts alone
pub mod Carried
