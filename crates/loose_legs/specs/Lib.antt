pub mod IntentSteps
pub mod LooseTable
