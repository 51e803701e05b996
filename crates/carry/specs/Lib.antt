pub mod Carry
pub mod Queue
