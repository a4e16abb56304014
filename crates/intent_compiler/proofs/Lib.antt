pub mod IntentKeeping
pub mod LooseKinds
pub mod IntentTables
pub mod IntentAlike
pub mod IntentStrict
pub mod IntentAnswering
pub mod AnyPreference
pub mod PublicLaws
