pub mod Prints
pub mod Printing
pub mod Reading
