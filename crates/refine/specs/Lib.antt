pub mod Classes
pub mod Signatures
pub mod Splitting
pub mod Steps
