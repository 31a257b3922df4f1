pub mod Normal
pub mod Bytes
pub mod Words
pub mod Tokens
pub mod Parts
pub mod Numbers
pub mod Examples
-- for private contracts alone
pub mod Joined
