pub mod Stored
pub mod Bounded
pub mod Numbered
pub mod Prefixes
pub mod Reading
