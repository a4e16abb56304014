-- what crates above cite: the proofs of public laws, and lemmas on equal items, joined networks and lists
pub use Rattle.update_theory.proofs.PlanKeeping.{distinct_routes, joined_rules, joined_range}
pub use Rattle.update_theory.proofs.OldLookups.{old_lookups, hidden_lookups}
pub use Rattle.update_theory.proofs.LookupLaws.{old_routes, old_sids, new_lookups, old_match_stays, new_match_stays}
pub use Rattle.update_theory.proofs.PlanParts.{no_fault}
pub use Rattle.update_theory.proofs.Symmetry.{route_sym, old_is_new_route, old_is_new_sid, items_back}
pub use Rattle.update_theory.proofs.Equals.{families_are, same_prefix_are}
pub use Rattle.update_theory.proofs.PlanNumbers.{any_same}
pub use Rattle.update_theory.proofs.PlanLists.{any_at, get_front, get_seam, none_append, none_less}
