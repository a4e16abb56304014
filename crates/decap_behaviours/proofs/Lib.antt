pub mod HeaderLemmas
pub mod OutcomeLemmas
