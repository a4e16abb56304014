-- The lemmas that crates above may cite: each proves a law that a public function has for its contract.
pub use Rattle.outer_header_theory.proofs.PushedHeaderHeads.{one_fate}
pub use Rattle.outer_header_theory.proofs.PushedHeaderPolicies.{policy_front, policy_round}
