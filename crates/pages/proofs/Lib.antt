pub mod Lines
pub mod Placed
pub mod Refused
pub mod Handed
pub mod Fitting
pub mod Output
