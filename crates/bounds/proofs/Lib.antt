pub mod Prefixes
pub mod Ranges
pub mod Recursion
