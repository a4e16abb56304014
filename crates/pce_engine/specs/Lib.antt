pub mod EngineReplies
pub mod EngineTerms
