-- The lemmas that crates above may cite.
pub use Rattle.update_commands.proofs.WholeOneOutput.{update_one}
