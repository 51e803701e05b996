pub mod Answer
pub mod Pages
