pub mod Outcome
pub mod Queue
pub mod Goal
pub mod Costs
