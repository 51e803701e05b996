pub mod Refusals
pub mod Answers
pub mod Places
pub mod Paths
pub mod Compiled
pub mod Examples
