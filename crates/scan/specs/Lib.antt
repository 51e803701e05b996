pub mod Place
pub mod Integer
pub mod Start
