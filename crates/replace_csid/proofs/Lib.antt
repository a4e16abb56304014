pub mod ReplacePlaceLemmas
pub mod PublicLaws
pub mod ReplaceWriteLemmas
