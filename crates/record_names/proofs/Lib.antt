pub mod Steps
pub mod Plain
pub mod Counts
pub mod Names
