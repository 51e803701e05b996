pub mod Replay
pub mod Machine
