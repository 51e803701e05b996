pub mod Above
pub mod Counts
pub mod Widths
pub mod Numbers
pub mod Streams
pub mod AllLetters
