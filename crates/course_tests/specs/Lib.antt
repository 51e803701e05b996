pub mod Goal
pub mod Refusals
pub mod Cost
