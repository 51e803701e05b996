pub mod Counting
pub mod Figures
