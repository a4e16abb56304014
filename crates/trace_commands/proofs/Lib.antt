pub mod TraceSteps
pub mod Replaying
