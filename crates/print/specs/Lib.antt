pub mod Append
pub mod Text
pub mod Lines
