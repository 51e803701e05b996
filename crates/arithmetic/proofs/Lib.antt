pub mod Machine
pub mod Operators
pub mod Floored
pub mod Coded
