pub mod Records
pub mod Queue
pub mod Rows
pub mod Outcome
