pub mod Raised
pub mod Sums
pub mod Digits
pub mod Streams
pub mod Held
