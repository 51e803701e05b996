pub mod Compacting
pub mod Analysis
pub mod Renumbering
pub mod Reducing
pub mod Outcome
pub mod Functional
