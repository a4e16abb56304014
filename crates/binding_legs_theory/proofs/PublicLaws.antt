-- The lemmas that crates above may cite: each proves a law that a public function of a crate below has for its contract.
pub use Rattle.tunnel_network_theory.proofs.PublicLaws.{policy_head, tunnel_origins}
