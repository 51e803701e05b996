pub mod StoredGraph
pub mod Checking
