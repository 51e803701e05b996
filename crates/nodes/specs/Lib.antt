pub mod Code
pub mod Postfix
pub mod FirstPlaces
pub mod Bounded
pub mod Evaluate
pub mod Bounds
