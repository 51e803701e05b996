pub mod Course
pub mod Output
