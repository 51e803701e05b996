pub mod Step
pub mod RunningPlace
pub mod Executable
pub mod Followed
