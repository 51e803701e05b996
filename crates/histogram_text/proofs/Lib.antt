pub mod Blocks
pub mod Output
pub mod Text
pub mod Prints
