pub mod Parts
pub mod KeyLists
pub mod KeyNumbers
pub mod PreparedLaws
pub mod Unique
