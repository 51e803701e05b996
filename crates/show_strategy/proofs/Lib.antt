pub mod Room
pub mod Pages
pub mod Prints
pub mod Printing
