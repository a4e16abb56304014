-- what crates above cite: facts of a value that reading gives, and what SIDs cost by a preference
pub use Rattle.intent_reader.proofs.GivenLemmas.{Holds, after, tested, tested_on}
pub use Rattle.intent_reader.proofs.PreferenceLaws.{sid_costs_few}
