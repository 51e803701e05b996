pub mod Answers
pub mod Sweeps
pub mod Play
