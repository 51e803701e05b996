pub mod FirstClasses
pub mod Signatures
pub mod Chains
pub mod Splitting
pub mod Refinement
pub mod Unique
