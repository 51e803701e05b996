pub mod Counts
pub mod Held
