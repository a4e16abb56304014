-- The lemmas on these legs that crates above may cite: each proves a clause of a public function of a crate below.
pub use Rattle.loose_legs_theory.proofs.LooseLegLegLaws.{loose_laws}
pub use Rattle.loose_meaning_theory.proofs.ListLaws.{loose_keeps_law, loose_means}
