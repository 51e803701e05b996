pub mod Rows
pub mod Sheet
pub mod Reading
pub mod Parts
