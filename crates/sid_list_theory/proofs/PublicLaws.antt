-- The laws of this crate as lemmas, each the proof of a clause of `laws`: what crates above cite.
pub use Rattle.sid_list_theory.proofs.SidListStarts.{legal_addresses, first_some, first_place, starts_first, destination_holds}
pub use Rattle.sid_list_theory.proofs.Follows.{next_place_law}
pub use Rattle.sid_list_theory.proofs.Alongs.{along_hop, along_holds, along_sent, along_next, along_onward, along_tired, along_only, along_last, along_plain, along_exposed, along_exposed_plain, along_before, along_packed, along_exposes, last_replace, sids_first, sids_next, sids_last, row_along}
