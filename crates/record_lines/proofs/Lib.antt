pub mod Slices
pub mod Runs
