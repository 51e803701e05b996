pub mod Equality
pub mod Count
pub mod Rows
