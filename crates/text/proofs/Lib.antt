pub mod Token
pub mod Bytes
pub mod Fold
pub mod Lines
mod Examples
