pub mod ViewLemmas
pub mod SrhWriteLemmas
pub mod ItemLemmas
