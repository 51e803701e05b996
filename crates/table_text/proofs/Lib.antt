pub mod Examples
pub mod Lengths
pub mod Places
pub mod Table
