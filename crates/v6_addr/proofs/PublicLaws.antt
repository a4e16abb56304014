-- what crates above cite: each is the proof of a public law of this crate
pub use Rattle.v6_addr.proofs.PrefixFacts.{holds_address_is, is_inside_is, Holds_own_value, Holds_at_128, Holds_outer, Holds_nested, Holds_alike, same_value, same_above}
pub use Rattle.v6_addr.proofs.Fields.{same_below, put_same, put_above, put_below, put_bound, field_of_same, field_of_before, field_of_behind, with_field_of_bound, Holds_with_field}
pub use Rattle.v6_addr.proofs.BitLaws.{same_from_both, put_cut, with_field_of_same, Holds_longer}
pub use Rattle.v6_addr.proofs.PrefixGrammar4.{prefix4_text_is}
pub use Rattle.v6_addr.proofs.GrammarLaws.{address_text_is}
pub use Rattle.v6_addr.proofs.PrefixGrammar.{address_below, prefix_text_is}
