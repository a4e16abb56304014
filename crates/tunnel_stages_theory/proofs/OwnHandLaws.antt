-- The lemmas that crates above may cite: each proves a law that a public function has for its contract.
pub use Rattle.tunnel_stages_theory.proofs.OwnHandFirsts.{first_stages, first_walk}
pub use Rattle.tunnel_stages_theory.proofs.OwnHandRealizing.{binds_same, hands_either, realizes_either, executes_either, realizes_once}
pub use Rattle.tunnel_stages_theory.proofs.OwnFirsts.{own_either}
pub use Rattle.tunnel_stages_theory.proofs.Counted.{counted_own}
pub use Rattle.tunnel_stages_theory.proofs.OwnHandSmalls.{small_own, small_keeps_law}
