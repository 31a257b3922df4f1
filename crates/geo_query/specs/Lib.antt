pub mod QueryView
pub mod Query
pub mod Examples
