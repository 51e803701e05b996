pub mod Tokens
pub mod Names
pub mod Lines
pub mod Integers
pub mod Partners
pub mod Functional
pub mod Starts
