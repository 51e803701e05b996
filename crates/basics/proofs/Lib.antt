pub mod Tests
pub mod Reflects
pub mod Lists
pub mod Count
pub mod Answers
pub mod Clearing
