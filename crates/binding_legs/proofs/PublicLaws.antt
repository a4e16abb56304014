-- The lemmas on these legs that crates above may cite: each proves a clause of a public function of a crate below.
pub use Rattle.binding_legs_theory.proofs.OriginLegLaws.{binding_laws}
pub use Rattle.binding_legs_theory.proofs.OriginStrict.{finish_strict, leg_strict, shape_strict}
pub use Rattle.binding_legs_theory.proofs.Means.{binding_means}
