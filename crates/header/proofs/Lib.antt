pub mod Streams
pub mod StreamKinds
