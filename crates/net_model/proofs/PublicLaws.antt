-- what crates above cite: each is the proof of a public law of this crate, or what look-ups and places in lists mean
pub use Rattle.net_model.proofs.NetworkKeepsLemmas.{keeps_from_network, link_set_from}
pub use Rattle.net_model.proofs.IsBestLemmas.{lookup_is_best, best_is_one, same_prefix_value, matched_sid_holds}
pub use Rattle.net_model.proofs.EntryLemmas.{same_family_from, entry_means, entry_shown, entry_is_there, whole_entries, contains_none, contains_cases, contains_first, contains_later}
pub use Rattle.net_model.proofs.FindLemmas.{find_first, find_none, get_from_contains, contains_from_get}
pub use Rattle.net_model.proofs.BlockLemmas.{block_of_is}
pub use Rattle.net_model.proofs.CompressionLaws.{sid_suits, sid_unflavoured, sid_not_next}
pub use Rattle.net_model.proofs.NamedLemmas.{position_item, position_None}
pub use Rattle.net_model.proofs.SidLaws.{exact_law, enough_law}
