-- The lemmas that crates above may cite.
pub use Rattle.compile_commands.proofs.Compiling.{valued}
pub use Rattle.compile_commands.proofs.CommandOneOutput.{WantsOne, compiled_one, files_one, compile_one}
pub use Rattle.intent_compiler.proofs.PublicLaws.{cost_for, one_answer_for, realizes_loose, realizes_own, realizes_strict, met_keeps, keeps_crosses, loose_keeps_law}
