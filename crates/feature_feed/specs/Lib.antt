pub mod Feed
pub mod Drain
pub mod Load
pub mod JsonLines
pub mod Csv
pub mod CsvFeed
pub mod MemoryFeed
-- for private contracts alone
pub mod Steady
pub mod CsvRows
pub mod Taking
