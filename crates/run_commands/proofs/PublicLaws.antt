-- The lemmas that crates above may cite.
pub use Rattle.run_commands.proofs.DriverWalking.{step_by, walk_begins, walk_ends, walk_goes_on, walk_is_over}
pub use Rattle.run_commands.proofs.Mixing.{driven_mixes, driven_tells, driven_walks}
pub use Rattle.run_commands.proofs.OutAlone.{out_alone, outs_went}
pub use Rattle.run_commands.proofs.DriverTurning.{event_outcome, event_tells, new_error, new_given, new_there, new_within, new_writable, of_there, to_there}
