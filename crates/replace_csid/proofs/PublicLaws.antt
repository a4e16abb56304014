-- The laws of this crate as lemmas, each the proof of a clause: what crates above cite.
pub use Rattle.replace_csid.proofs.ReplacePlaceLemmas.{place_behind, place_whole, place_value}
