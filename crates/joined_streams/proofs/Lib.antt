pub mod Places
pub mod Joining
pub mod Describing
pub mod Cuts
pub mod Bounds
