pub mod TableLemmas
pub mod TableLengthLemmas
pub mod IndexLemmas
pub mod TableEditLemmas
pub mod TablePlaceLemmas
pub mod SwapLemmas
pub mod PublicLaws
