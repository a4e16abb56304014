pub mod ChainLemmas
pub mod ChainRemovalLemmas
pub mod PublicLaws
