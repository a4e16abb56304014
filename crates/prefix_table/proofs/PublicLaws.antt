-- what crates above cite: each is the proof of a public law of this crate
pub use Rattle.prefix_table.proofs.TableLemmas.{one_best, best_taken, best_kept}
pub use Rattle.prefix_table.proofs.TableEditLemmas.{one_from, one_to, there_tells, value_tells, value_pushed, value_with, is_table_with}
pub use Rattle.prefix_table.proofs.SwapLemmas.{value_swapped, is_table_swapped}
