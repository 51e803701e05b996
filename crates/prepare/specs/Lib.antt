pub mod Key
pub mod Prepared
