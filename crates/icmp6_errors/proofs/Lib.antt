pub mod SumLemmas
pub mod ErrorChains
pub mod MessageLemmas
