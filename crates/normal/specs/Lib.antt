pub mod Rows
pub mod Stored
pub mod Table
pub mod Encoded
pub mod Outcome
pub mod Says
pub mod Solved
