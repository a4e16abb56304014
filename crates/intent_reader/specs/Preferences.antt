-- What a SID of a list costs by what an intent prefers, for the crates that stand on intents.
pub use Rattle.net_syntax.specs.Preferring.{sid_cost_of}
