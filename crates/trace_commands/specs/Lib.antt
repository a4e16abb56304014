pub mod ReplayCommand
pub mod ReplayCommandTerms
pub mod TraceCommand
pub mod TraceCommandTerms
pub mod Replaying
pub mod Teller
