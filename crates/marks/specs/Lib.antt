pub mod Marks
pub mod Tests
pub mod Sweeps
