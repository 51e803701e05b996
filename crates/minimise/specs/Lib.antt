pub mod Outcome
pub mod Compacting
pub mod Reducing
