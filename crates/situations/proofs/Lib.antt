pub mod Stored
pub mod Found
