pub mod Line
pub mod Machine
