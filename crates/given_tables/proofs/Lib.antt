pub mod Streams
pub mod Fit
