-- what crates above cite: the tables between two descriptions
pub use Rattle.update_plan.proofs.UpdateBetween.{between_old, between_new, between_pass}
