-- what crates above cite: each is the proof of a public law of this crate
pub use Rattle.net_flatness.proofs.AlikeLemmas.{lookups_alike, own_sid_is_best, one_sid_prefix}
pub use Rattle.net_flatness.proofs.NestLaws.{inside_is_nested, nests_are_not_nested, nest_block}
pub use Rattle.net_flatness.proofs.FlatLaws.{sid_units, sid_replace_len, sid_some_csid, sid_plain, one_flavour, holds_or_misses, its_block}
pub use Rattle.net_flatness.proofs.FlatLemmas.{flatness_ok}
