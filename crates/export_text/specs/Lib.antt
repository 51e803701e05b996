pub mod Export
pub mod Described
