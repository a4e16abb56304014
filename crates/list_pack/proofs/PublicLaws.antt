-- The lemmas that crates above may cite: costs that are at most others, what edges and last moves are made of, and what is under the cost
-- of a path.
pub use Rattle.list_pack.proofs.Rooming.{both_blocks}
pub use Rattle.list_pack.proofs.Barring.{room_kept, room_stays, room_free}
pub use Rattle.list_pack.proofs.Costing.{at_most_both, under_none, under_itself, under_trans, under_plus, EdgeParts, edge_parts, edge_made, LastParts, last_parts, last_made}
pub use Rattle.list_pack.proofs.Leasts.{under_behind, under_last, attained}
pub use Rattle.list_pack.proofs.CostSplits.{cost_splits, Split, split_of, cost_made}
pub use Rattle.list_pack.proofs.PathLaws.{list_same, path_list, list_path}
pub use Rattle.list_pack.proofs.ListSteps.{steps_prefixes}
pub use Rattle.list_pack.proofs.StepLists.{steps_list}
pub use Rattle.list_pack.proofs.Solutions.{solutions_same}
pub use Rattle.list_pack.proofs.FlatSids.{same_self, same_is, flat_lists}
pub use Rattle.list_pack.proofs.Ruled.{legal_flat}
pub use Rattle.list_pack.proofs.Valued.{legal_valued}
