pub mod Changes
pub mod Axes
pub mod Least
pub mod Passes
