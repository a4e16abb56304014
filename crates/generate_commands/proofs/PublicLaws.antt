-- The lemmas that crates above may cite.
pub use Rattle.generate_commands.proofs.GenerateOneOutput.{gen_one}
