pub mod Prints
pub mod Exported
pub mod Opened
