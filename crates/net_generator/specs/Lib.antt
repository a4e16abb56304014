pub mod GeneratedWords
pub mod GeneratedWordsTerms
pub mod Networks
pub mod Intents
pub mod GeneratedPackets
