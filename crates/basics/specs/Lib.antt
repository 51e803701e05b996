pub mod Count
pub mod Lists
pub mod Answers
pub mod Clearing
pub mod Copying
