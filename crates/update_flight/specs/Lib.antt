pub mod MomentTables
pub mod MomentTablesTerms
pub mod Transition
pub mod TransitionTerms
pub mod Interleaving
pub mod Planned
pub mod PlannedTerms
