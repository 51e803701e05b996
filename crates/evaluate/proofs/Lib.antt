pub mod Leaves
pub mod Decoding
pub mod Recursion
pub mod Shifting
pub mod Negating
