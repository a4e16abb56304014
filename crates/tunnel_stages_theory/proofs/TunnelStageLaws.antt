-- The lemmas that crates above may cite: each proves a law that a public function has for its contract.
pub use Rattle.tunnel_stages_theory.proofs.Alone.{alone_stage, alone_walk}
pub use Rattle.tunnel_stages_theory.proofs.TunnelStageDepths.{depth_stage, depth_walk}
pub use Rattle.tunnel_stages_theory.proofs.Values.{as_values}
pub use Rattle.tunnel_stages_theory.proofs.Following.{walk_follows}
