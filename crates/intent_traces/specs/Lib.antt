pub mod Traces
pub mod TracesTerms
