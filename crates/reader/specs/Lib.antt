pub mod Stored
pub mod Constraints
pub mod Unknown
pub mod Extent
pub mod FirstNodes
pub mod Tested
pub mod Held
