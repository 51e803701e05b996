pub mod Prefix
pub mod Span
