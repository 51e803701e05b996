pub mod Prints
pub mod Shows
