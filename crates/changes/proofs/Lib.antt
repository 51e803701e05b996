pub mod Axes
pub mod Passes
pub mod Settled
pub mod Streams
pub mod Blocks
pub mod Spread
pub mod Loops
