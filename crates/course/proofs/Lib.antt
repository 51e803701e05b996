pub mod Queue
pub mod Meeting
pub mod Goal
pub mod Costs
pub mod Rows
pub mod Cheapest
pub mod Following
pub mod Outcome
