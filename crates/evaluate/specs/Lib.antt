pub mod Leaf
pub mod Negation
pub mod Ready
pub mod Shift
