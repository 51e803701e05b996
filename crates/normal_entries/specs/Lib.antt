pub mod Row
pub mod Fields
pub mod Entries
