pub mod Append
pub mod Decimal
pub mod Digits
pub mod Each
pub mod Lengths
pub mod Lines
pub mod Machine
pub mod Names
