-- The lemmas that crates above cite, each a clause of one of the laws.
pub use Rattle.trace_replay.proofs.Unended.{unended_bad}
pub use Rattle.trace_replay.proofs.Written.{written_counts, written_good, written_lines, written_right}
