pub mod SegmentListsTerms
pub mod ListPlaces
pub mod ExecutionRows
pub mod ListExamples
