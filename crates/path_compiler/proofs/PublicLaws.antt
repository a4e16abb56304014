-- The lemmas that crates above may cite: each proves a clause of a public function.
pub use Rattle.path_compiler.proofs.CompilerChecking.{says_lists}
pub use Rattle.path_compiler.proofs.CompilerHanding.{none_less, says_over}
pub use Rattle.path_compiler.proofs.OneAnswer.{answers_same}
pub use Rattle.path_compiler.proofs.Certifying.{verdict_found, verdict_none, certifies_by}
