pub mod TextWords
pub mod Prefixes
pub mod DescriptionText
pub mod IntentText
pub mod Preferring
