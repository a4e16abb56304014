pub mod GenCommand
pub mod GenCommandTerms
pub mod Summary
pub mod SummaryTerms
