pub mod Cut
pub mod Play
pub mod Call
pub mod Parts
