pub mod Tiles
pub mod Languages
pub mod FeatureView
pub mod Feature
pub mod Row
pub mod Table
pub mod Examples
-- for private contracts alone
pub mod Collected
