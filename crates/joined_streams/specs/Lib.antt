pub mod Joined
pub mod Describing
pub mod Outcome
