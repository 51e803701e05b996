pub mod FourBytes
pub mod Counted
pub mod Nonzeros
