pub mod Steps
pub mod Parts
pub mod Ends
pub mod Record
