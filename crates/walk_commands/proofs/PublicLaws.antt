-- The lemmas that crates above may cite.
pub use Rattle.walk_commands.proofs.WalkStarts.{headend_ready, headend_within}
pub use Rattle.walk_commands.proofs.NoList.{none_has_list}
pub use Rattle.walk_commands.proofs.WalkOneOutput.{no_list_one, walk_one}
pub use Rattle.compile_commands.proofs.PublicLaws.{compiled_one, files_one, valued}
