-- The lemmas that crates above may cite: each proves a law that a public function has for its contract, or is what the code goes by.
pub use Rattle.list_judge_theory.proofs.NeedLaws.{need_law}
pub use Rattle.list_judge_theory.proofs.OneNeeds.{one_need}
