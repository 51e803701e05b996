pub mod Made
pub mod Agree
pub mod Continuing
pub mod Unique
pub mod Search
pub mod Total
