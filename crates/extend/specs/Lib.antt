pub mod Step
pub mod Marking
