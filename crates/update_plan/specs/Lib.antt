pub mod UpdateState
pub mod UpdateStateTerms
