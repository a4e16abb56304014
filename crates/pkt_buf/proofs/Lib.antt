pub mod BufferLemmas
pub mod PublicLaws
