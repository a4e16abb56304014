pub mod ChoiceWords
pub mod ChoiceWordsTerms
pub mod Judgements
pub mod InputPackets
pub mod InputPacketsTerms
pub mod InputFrames
pub mod FrameSources
