pub mod Residue
pub mod Written
