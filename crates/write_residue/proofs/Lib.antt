pub mod Recursion
pub mod Answers
pub mod Joined
