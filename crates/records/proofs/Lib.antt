pub mod Steps
pub mod Numbers
pub mod Values
pub mod Sheets
pub mod Letters
mod Examples
