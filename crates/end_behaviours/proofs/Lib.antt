pub mod AloneLemmas
pub mod EndRemovalLemmas
pub mod EndStepLemmas
pub mod FoundLemmas
pub mod FromLemmas
pub mod LastLemmas
pub mod TreatmentLemmas
pub mod EndLengthLemmas
