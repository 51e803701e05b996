pub mod Answers
pub mod Rows
pub mod Sweeping
pub mod Filling
pub mod Outcome
