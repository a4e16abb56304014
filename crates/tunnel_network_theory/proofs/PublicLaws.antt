-- The lemmas that crates above may cite: each proves a law that a public function has for its contract.
pub use Rattle.tunnel_network_theory.proofs.NetworkMachine.{walks_same, meets_same}
pub use Rattle.tunnel_network_theory.proofs.NetworkJoins.{steps_joined}
pub use Rattle.tunnel_network_theory.proofs.NetworkHanding.{hands_have, have_hands, hands_each}
pub use Rattle.tunnel_network_theory.proofs.TransitWalks.{all_same, machine_transits}
pub use Rattle.tunnel_network_theory.proofs.NetworkStarts.{policy_head, tunnel_origins}
pub use Rattle.tunnel_network_theory.proofs.Forms.{look_shows, network_forms, hands_need}
pub use Rattle.tunnel_network_theory.proofs.HeadendPaths.{own_path, own_sids}
pub use Rattle.tunnel_network_theory.proofs.Meetings.{leg_meets, leg_met, transit_meets, transit_met}
pub use Rattle.tunnel_stages_theory.proofs.OwnHandLaws.{small_keeps_law}
