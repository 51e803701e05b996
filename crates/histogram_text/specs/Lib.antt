pub mod Histogram
pub mod Output
pub mod Prints
