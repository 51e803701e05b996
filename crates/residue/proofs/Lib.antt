pub mod Residue
pub mod Written
pub mod Size
pub mod Writing
pub mod Blocks
