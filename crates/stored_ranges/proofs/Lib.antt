pub mod Ranges
pub mod Passed
