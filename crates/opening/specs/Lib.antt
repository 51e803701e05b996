pub mod Start
pub mod Plays
pub mod Opens
pub mod Printing
