pub mod Vocabulary
pub mod Grammar
pub mod Parser
pub mod Balance
pub mod BracketBytes
pub mod Form
pub mod Release
pub mod Refusal
pub mod Reading
pub mod Accepted
pub mod Names
pub mod StreamsAlone
mod Examples
