pub mod JudgeLaws
pub mod StepLaws
pub mod ExtendLaws
pub mod Unique
