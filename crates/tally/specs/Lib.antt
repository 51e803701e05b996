pub mod Faults
pub mod Machine
