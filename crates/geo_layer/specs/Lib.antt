pub mod Json
pub mod Langs
pub mod Layer
pub mod LayerText
pub mod Examples
