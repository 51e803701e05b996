pub mod Elements
pub mod Rows
pub mod Parts
pub mod Lengths
pub mod Examples
