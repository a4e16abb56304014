-- The lemmas that crates above may cite.
pub use Rattle.command_inputs.proofs.InputJudging.{RulesAreKept, rules_kept}
pub use Rattle.command_inputs.proofs.Tracing.{trace_small}
pub use Rattle.command_inputs.proofs.FrameLoops.{FramesLeft, all_left, at_hand, flat_one, frames_done, one_done}
pub use Rattle.command_inputs.proofs.InputsFrames.{AreBytes, HoldsBytes, InBytes, IsOfBytes, bytes_packets, in_input, numbered_packets}
