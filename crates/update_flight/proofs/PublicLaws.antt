-- what crates above cite: the proofs of public laws, and lemmas on tables between edits, turns and edits
pub use Rattle.update_flight.proofs.Planned.{starts_old, ends_new, passes_over}
pub use Rattle.update_flight.proofs.PassingPassed.{turn_same, alike_turn}
pub use Rattle.update_flight.proofs.Whole.{own_entry, own_kept, whole}
pub use Rattle.update_flight.proofs.PassingKept.{kept_start, kept_enter, kept_turn, kept_edit, kept_move, turn_length}
pub use Rattle.update_flight.proofs.OwnStages.{own_stage, own_staged}
pub use Rattle.update_flight.proofs.PassingEditLemmas.{done_least}
