pub mod Room
pub mod Compile
pub mod Force
pub mod NormalForm
