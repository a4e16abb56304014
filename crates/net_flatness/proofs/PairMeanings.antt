-- What the tests of pairs mean.
use Rattle.std.proofs.Common.{◌≡◌, ◌≢◌, ◌<◌, ◌≤◌, true, List, ◌↔◌, refl, sym, ap, ◌∙◌, subst, arith, inl, inr}
use Rattle.std.specs.List.{slice_get}
use Rattle.std.proofs.lemmas.Bool.{cases_Bool, and_parts, and_from, or_cases, or_left, or_right, cases_lt, not-true, leb-true, le-leb, eqb-true, eqb-false, eq-eqb, both_ways}
use Rattle.std.proofs.lemmas.Option.{same_Some}
use Rattle.v6_addr.specs.Address.{PrefixValue, Holds}
use Rattle.v6_addr.proofs.PublicLaws.{is_inside_is, holds_address_is, Holds_nested, Holds_own_value}
use Rattle.srv6_rules.specs.declared.sid.Csid.{Csid}
use Rattle.srv6_rules.specs.declared.sid.Csid.TheVariants as csids
use Rattle.srv6_rules.specs.declared.sid.SidEntry.{SidEntry}
use Rattle.net_model.specs.declared.parts.Block.{Block}
use Rattle.net_model.specs.declared.parts.BlockKind.{BlockKind}
use Rattle.net_model.specs.declared.parts.BlockKind.TheVariants as kinds
use Rattle.net_model.proofs.PublicLaws.{same_prefix_value}
use Rattle.net_model.specs.Network.{Network}
use Rattle.net_flatness.specs.Flat.{InnerEntry, OfSid, OfRoute, OfAddress, address_prefix, is_nested, is_zero_in, has_wrong_length, is_mixed, same_csid, is_clash, IsZeroIn, Overlap, HasWrongLength, IsMixed, IsClash}
use Rattle.net_flatness.specs.FlatTerms.{IsNested, IsFirst}
use Rattle.net_flatness.proofs.NestLemmas.{fails, refutes, next_is, nest_is}

pub nested_is : (net : Network) (outer : SidEntry) (inner : InnerEntry) → (is_nested net outer inner ≡ true) ↔ IsNested net outer inner
nested_is net outer (OfSid t) = (
  λ h. let parts = and_parts _ _ h in
      ((is_inside_is t.prefix outer.prefix).0 parts.0, refutes _ _ (nest_is net outer t).1 parts.1),
  λ is. and_from _ _ ((is_inside_is t.prefix outer.prefix).1 is.0) (fails _ _ (nest_is net outer t).0 is.1),
)
nested_is net outer (OfRoute r) = is_inside_is r.prefix outer.prefix
nested_is net outer (OfAddress n) = is_inside_is (address_prefix n) outer.prefix

pub zero_is : (s : SidEntry) (b : Block) → (is_zero_in s b ≡ true) ↔ IsZeroIn s b
zero_is s b = (
  λ h. let parts = and_parts _ _ h in ((is_inside_is s.prefix b.prefix).0 parts.0, eqb-true _ _ parts.1),
  λ is. and_from _ _
      ((is_inside_is s.prefix b.prefix).1 is.0) (eq-eqb _ _ is.1),
)

length_is : (kind : BlockKind) (b : Block) (s : SidEntry) → (has_wrong_length kind b s ≡ true) ↔ HasWrongLength kind b s
length_is kinds.Next b s = (
  λ h. let parts = and_parts _ _ h in (refutes _ _ (next_is s.csid).1 parts.0, eqb-false _ _ (not-true _ parts.1)),
  λ wrong. and_from _ _
      (fails _ _ (next_is s.csid).0 wrong.0) (fails _ _ (eqb-true _ _) wrong.1),
)
length_is kinds.Replace b s = (λ h. eqb-false _ _ (not-true _ h), λ wrong. fails _ _ (eqb-true _ _) wrong)

-- a prefix that is no longer than another overlaps it where it holds the other's first address
pub overlap_is : (p q : PrefixValue) → p.len ≤ q.len → Holds p q.value ↔ Overlap p q
overlap_is p q short = (λ h. (q.value, h, Holds_own_value q), λ over. Holds_nested p q over.0 short over.1 over.2)

pub mixed_is : (b : Block) (s : SidEntry) → (is_mixed b s ≡ true) ↔ IsMixed b s
mixed_is b s = (to, from)
  where
    to : is_mixed b s ≡ true → IsMixed b s
    to h = elim (or_cases _ _ h) [
      | inl wide ↦ let parts = and_parts _ _ wide in let short = leb-true _ _ parts.0 in
          inl (short, (overlap_is s.prefix b.prefix short).0 ((holds_address_is s.prefix b.prefix.value).0 parts.1))
      | inr within ↦ let parts = and_parts _ _ within in
          inr ((is_inside_is s.prefix b.prefix).0 parts.0, (length_is b.kind b s).0 parts.1)
    ]

    from : IsMixed b s → is_mixed b s ≡ true
    from (inl (short, over)) = or_left _ _ (and_from _ _ (le-leb _ _ short)
        ((holds_address_is s.prefix b.prefix.value).1 ((overlap_is s.prefix b.prefix short).1 over)))
    from (inr (inside, wrong)) = or_right _ _ (and_from _ _ ((is_inside_is s.prefix b.prefix).1 inside) ((length_is b.kind b s).1 wrong))

csid_from : (c d : Csid) → same_csid c d ≡ true → c ≡ d
csid_from csids.Plain csids.Plain h = refl
csid_from csids.Plain csids.Next h = cc
csid_from csids.Plain csids.Replace h = cc
csid_from csids.Next csids.Plain h = cc
csid_from csids.Next csids.Next h = refl
csid_from csids.Next csids.Replace h = cc
csid_from csids.Replace csids.Plain h = cc
csid_from csids.Replace csids.Next h = cc
csid_from csids.Replace csids.Replace h = refl

csid_self : (c : Csid) → same_csid c c ≡ true
csid_self csids.Plain = refl
csid_self csids.Next = refl
csid_self csids.Replace = refl

csid_to : (c d : Csid) → c ≡ d → same_csid c d ≡ true
csid_to c d e = subst (λ x. same_csid c x ≡ true) e (csid_self c)

-- compressions that do not differ are one
pub csid_or : (c d : Csid) → ¬ (c ≢ d) → c ≡ d
csid_or c d same =
    elim (cases_Bool (same_csid c d)) [
      | inl is ↦ csid_from c d is
      | inr other ↦ absurd (same (λ e. both_ways _ other (csid_to c d e)))
    ]

pub clash_is : (s t : SidEntry) → (is_clash s t ≡ true) ↔ IsClash s t
clash_is s t = (to, from)
  where
    to : is_clash s t ≡ true → IsClash s t
    to h =
        let nodes = and_parts _ _ h in
        let prefix = and_parts _ _ nodes.1 in
        let same = and_parts _ _ prefix.0 in
        let first = and_parts _ _ prefix.1 in
        let second = and_parts _ _ first.1 in
        record {
          nodes = eqb-false _ _ (not-true _ nodes.0);
          prefix = same_prefix_value s.prefix t.prefix (eqb-true _ _ same.0) (eqb-true _ _ same.1);
          first = first.0;
          second = second.0;
          csid = refutes _ _ (csid_to s.csid t.csid) second.1;
        }

    from : IsClash s t → is_clash s t ≡ true
    from is =
        and_from _ _ (fails _ _ (eqb-true _ _) is.nodes)
        (and_from _ _ (and_from _ _ (eq-eqb _ _ (ap (λ p. p.value) is.prefix)) (eq-eqb _ _ (ap (λ p. p.len) is.prefix)))
        (and_from _ _ is.first (and_from _ _ is.second (fails _ _ (csid_from s.csid t.csid) is.csid))))

clash_back : (s t : SidEntry) → IsClash s t → IsClash t s
clash_back s t is = record {
  nodes = λ e. is.nodes (sym e);
  prefix = sym is.prefix;
  first = is.second;
  second = is.first;
  csid = λ e. is.csid (sym e);
}

-- since SIDs clash both ways, the first of them is the earlier
pub clash_in_order : (sids : List SidEntry) (s t : SidEntry) (first : IsFirst IsClash sids sids s t)
    → first.outer_place < first.inner_place
clash_in_order sids s t first =
    let (at_s, at_t, is) = first.pair in
    elim (cases_lt first.outer_place first.inner_place) [
      | inl before ↦ before
      | inr behind ↦ elim (cases_lt first.inner_place first.outer_place) [
        | inl later ↦ absurd (first.no_earlier_outer first.inner_place first.outer_place t s later (at_t, at_s, clash_back s t is))
        | inr not_later ↦
            let place : first.outer_place ≡ first.inner_place = omega (arith, behind, not_later) in
            absurd (is.nodes (ap (λ x. x.node) (same_Some s t (sym at_s ∙ (ap (slice_get sids) place ∙ at_t)))))
      ]
    ]
