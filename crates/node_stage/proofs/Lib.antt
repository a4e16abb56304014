pub mod BindingLemmas
pub mod ReadingLemmas
pub mod ReadingLemmas4
pub mod EndpointLemmas
pub mod StageLemmas
pub mod StageFrontLemmas
