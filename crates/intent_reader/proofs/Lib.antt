pub mod IntentSearches
mod IntentStepLemmas
pub mod FunctionLemmas
pub mod IntentListReading
pub mod WalkLemmas
pub mod IntentKeepsLemmas
pub mod GivenLemmas
pub mod IntentRangeLemmas
pub mod IntentJudgingLemmas
pub mod NoFaultLemmas
pub mod PreferenceLaws
pub mod PublicLaws
