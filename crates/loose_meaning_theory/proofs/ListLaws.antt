-- The lemmas that crates above may cite: each proves a law that a public function has for its contract.
pub use Rattle.loose_meaning_theory.proofs.LooseListRealizing.{executes_of, executes_to, hands_of, hands_to}
pub use Rattle.loose_meaning_theory.proofs.LooseListMeaning.{loose_means, loose_realizes, loose_shows}
pub use Rattle.loose_meaning_theory.proofs.LooseListSmalls.{loose_keeps_law}
