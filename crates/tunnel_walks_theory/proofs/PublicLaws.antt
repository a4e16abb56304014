-- The lemmas that crates above may cite: those that prove the laws of public functions, and the parts that walks of networks need.
pub use Rattle.tunnel_walks_theory.proofs.TunnelOptions.{then_parts, then_from, map_parts, map_from, if_parts, if_from, arrives_parts, arrives_from}
pub use Rattle.tunnel_walks_theory.proofs.Lefts.{left_parts, left_from, left_short, left_all}
pub use Rattle.tunnel_walks_theory.proofs.TunnelWalks.{choices_one, one_choices, choices_agree, choices_rows, one_each, rows_agree, got_later, got_same, end_later, end_same}
pub use Rattle.tunnel_walks_theory.proofs.Tunnels.{behind, behind_parts, behind_from, tunnel_joined, own_joined, met_joined}
pub use Rattle.tunnel_walks_theory.proofs.TunnelPaths.{transit_enough, transit_all, transit_each, leg_behind, leg_each, hands_path, path_hands, path_each, path_up, hands_one, one_hands}
pub use Rattle.tunnel_walks_theory.proofs.TunnelRests.{goes_on_law, opens_on, open_joined, tunnel_opens, first_end}
pub use Rattle.tunnel_walks_theory.proofs.Needs.{need, need_path}
