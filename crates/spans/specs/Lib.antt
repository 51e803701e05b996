pub mod Token
pub mod Postfix
pub mod Spans
pub mod Stored
pub mod Reading
