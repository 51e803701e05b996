pub mod StartLaws
pub mod Judged
pub mod Opening
pub mod Plays
pub mod Printing
pub mod Sizes
