pub mod Lines
pub mod Replies
pub mod EngineAnswers
pub mod Talk
pub mod Talked
pub mod TalkTerms
pub mod MemTalk
pub mod MemAsks
