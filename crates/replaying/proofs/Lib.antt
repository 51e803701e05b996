pub mod Outcomes
pub mod Steps
pub mod Plays
pub mod Lines
pub mod Ends
pub mod Chunks
