pub mod Below
pub mod Decided
pub mod Fit
pub mod Stored
