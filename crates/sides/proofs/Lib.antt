mod Signs
pub mod Values
