pub mod Number
pub mod Input
