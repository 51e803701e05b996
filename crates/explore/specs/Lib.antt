pub mod Chains
pub mod Search
pub mod Exploration
pub mod Rows
pub mod StoredSheet
