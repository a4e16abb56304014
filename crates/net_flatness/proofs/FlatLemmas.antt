-- What flatness means.
use Rattle.std.proofs.Common.{◌≡◌, Bool, true, List, [], ◌∷◌, map, Result, Ok, Err, ◌↔◌, refl, sym, ap, ◌∙◌, subst, inl, inr}
use Rattle.std.specs.List.{filter, Contains}
use Rattle.std.specs.Option.{option_map}
use Rattle.std.specs.Result.{IsOk}
use Rattle.std.proofs.lemmas.Bool.{cases_Bool, both_ways}
use Rattle.std.proofs.lemmas.Option.{slice_get-map}
use Rattle.std.proofs.lemmas.List.Elements.{Contains-append_left, Contains-append_right, Contains-append_cases}
use Rattle.srv6_rules.specs.declared.family.Family.{Family}
use Rattle.srv6_rules.specs.declared.family.Family.TheVariants as families
use Rattle.srv6_rules.specs.declared.sid.SidEntry.{SidEntry}
use Rattle.net_model.specs.declared.parts.Route.{Route}
use Rattle.net_model.specs.declared.net.Hit.{Hit}
use Rattle.net_model.specs.declared.parts.NetParts.{NetParts}
use Rattle.net_model.specs.Network.{Network}
use Rattle.net_model.specs.NetworkTerms.{network_of}
use Rattle.net_model.specs.NetworkRules.{same_family}
use Rattle.net_model.proofs.PublicLaws.{get_from_contains, contains_from_get, contains_none, contains_cases, contains_first, contains_later, same_family_from}
use Rattle.net_flatness.specs.declared.not_flat.NotFlat.{NotFlat}
use Rattle.net_flatness.specs.declared.not_flat.NotFlat.TheVariants.{Nested, ZeroCsid, MixedBlock, Clash}
use Rattle.net_flatness.specs.NestTests.{is_nest}
use Rattle.net_flatness.specs.Flat.{InnerEntry, OfSid, OfRoute, OfAddress, is_ipv6_route, inner_entries, is_nested, nested, is_zero_in, zero_csid, is_mixed, mixed_block, is_clash, clash, or_later, no_nested, no_zero, no_mixed, no_clash, flatness_of, IsZeroIn, IsMixed, IsClash, NoneNested, NoneZero, NoneMixed, IsFlat}
use Rattle.net_flatness.specs.FlatTerms.{IsNested, IsFirst, IsJudged}
use Rattle.net_flatness.proofs.PairLemmas.{HaveNone, none_among, first_among, AreJudged, are_judged}
use Rattle.net_flatness.proofs.PairMeanings.{nested_is, zero_is, mixed_is, clash_is, clash_in_order}
use Rattle.net_flatness.proofs.NestLemmas.{nest_is}

-- ---- entries and where they stand

contains_mapped : {X Y : Type 0} (f : X → Y) (xs : List X) (x : X) → Contains xs x → Contains (map f xs) (f x)
contains_mapped f xs x c =
    let (k, at) = get_from_contains xs x c in
    contains_from_get (map f xs) k (f x) (slice_get-map f xs k ∙ ap (option_map f) at)

mapped_from : {X Y : Type 0} (f : X → Y) (xs : List X) (y : Y) → Contains (map f xs) y → (x : X) × Contains xs x × (f x ≡ y)
mapped_from f [] y c = absurd (contains_none y c)
mapped_from f (x ∷ xs) y c =
    elim (contains_cases (f x) (map f xs) y c) [
      | inl is ↦ (x, contains_first x xs, is)
      | inr more ↦ let (z, there, is) = mapped_from f xs y more in (z, contains_later x xs z there, is)
    ]

pub contains_filtered : {X : Type 0} (test : X → Bool) (xs : List X) (x : X) → test x ≡ true → Contains xs x → Contains (filter test xs) x
contains_filtered test [] x passes c = absurd (contains_none x c)
contains_filtered test (y ∷ ys) x passes c =
    elim (contains_cases y ys x c) [
      | inl is ↦ let mine = ap test is ∙ passes in
          rw mine (subst (Contains (y ∷ filter test ys)) is (contains_first y (filter test ys)))
      | inr more ↦ elim (cases_Bool (test y)) [
        | inl mine ↦ rw mine (contains_later y (filter test ys) x (contains_filtered test ys x passes more))
        | inr other ↦ rw other (contains_filtered test ys x passes more)
      ]
    ]

pub filtered_from : {X : Type 0} (test : X → Bool) (xs : List X) (x : X) → Contains (filter test xs) x → Contains xs x × (test x ≡ true)
filtered_from test [] x c = absurd (contains_none x c)
filtered_from test (y ∷ ys) x c =
    elim (cases_Bool (test y)) [
      | inl mine ↦ elim (contains_cases y (filter test ys) x (rw mine at c)) [
        | inl is ↦ (subst (Contains (y ∷ ys)) is (contains_first y ys), ap test (sym is) ∙ mine)
        | inr more ↦ let (there, passes) = filtered_from test ys x more in (contains_later y ys x there, passes)
      ]
      | inr other ↦ let (there, passes) = filtered_from test ys x (rw other at c) in (contains_later y ys x there, passes)
    ]

-- what each entry is
abbrev IsAmong : Network → InnerEntry → Type 0
IsAmong net (OfSid s) = Contains net.sids s
IsAmong net (OfRoute r) = Contains net.routes r × (r.family ≡ families.V6)
IsAmong net (OfAddress n) = Contains net.nodes n

among_entries : (net : Network) (e : InnerEntry) → IsAmong net e → Contains (inner_entries net) e
among_entries net (OfSid s) c = Contains-append_left (map OfSid net.sids) _ (OfSid s) (contains_mapped OfSid net.sids s c)
among_entries net (OfRoute r) (c, v6) =
    let routes = filter is_ipv6_route net.routes in
    Contains-append_right (map OfSid net.sids) _ (OfRoute r)
    (Contains-append_left (map OfRoute routes) _ (OfRoute r)
    (contains_mapped OfRoute routes r (contains_filtered is_ipv6_route net.routes r (same_family_from _ _ v6) c)))
among_entries net (OfAddress n) c =
    Contains-append_right (map OfSid net.sids) _ (OfAddress n)
    (Contains-append_right (map OfRoute (filter is_ipv6_route net.routes)) _ (OfAddress n) (contains_mapped OfAddress net.nodes n c))

family_from : (r : Route) → is_ipv6_route r ≡ true → r.family ≡ families.V6
family_from r h = is_v6 r.family h
  where
    is_v6 : (f : Family) → same_family f families.V6 ≡ true → f ≡ families.V6
    is_v6 families.V6 h = refl
    is_v6 families.V4 h = cc

entries_among : (net : Network) (e : InnerEntry) → Contains (inner_entries net) e → IsAmong net e
entries_among net e c =
    elim (Contains-append_cases (map OfSid net.sids) _ e c) [
      | inl sid ↦ let (s, there, is) = mapped_from OfSid net.sids e sid in subst (IsAmong net) is there
      | inr more ↦ elim (Contains-append_cases (map OfRoute (filter is_ipv6_route net.routes)) _ e more) [
        | inl route ↦
            let (r, there, is) = mapped_from OfRoute (filter is_ipv6_route net.routes) e route in
            let (among, v6) = filtered_from is_ipv6_route net.routes r there in
            subst (IsAmong net) is (among, family_from r v6)
        | inr node ↦ let (n, there, is) = mapped_from OfAddress net.nodes e node in subst (IsAmong net) is there
      ]
    ]

-- ---- nested entries

none_nested_from : (net : Network) → HaveNone (IsNested net) net.sids (inner_entries net) → NoneNested net
none_nested_from net none = record {
  sids = λ s t in_s in_t inside. elim (cases_Bool (is_nest net s t)) [
    | inl nest ↦ (nest_is net s t).0 nest
    | inr other ↦ absurd (apart s (OfSid t) in_s in_t (inside, λ nest. both_ways _ other ((nest_is net s t).1 nest)))
  ];
  routes = λ s r in_s in_r v6 inside. apart s (OfRoute r) in_s (in_r, v6) inside;
  addresses = λ s n in_s in_n inside. apart s (OfAddress n) in_s in_n inside;
}
  where
    apart : (s : SidEntry) (e : InnerEntry) → Contains net.sids s → IsAmong net e → ¬ IsNested net s e
    apart s e in_s among = none_among (IsNested net) net.sids (inner_entries net) none s e in_s (among_entries net e among)

refuted : (net : Network) (s : SidEntry) (e : InnerEntry) → Contains net.sids s → IsAmong net e → IsNested net s e → ¬ NoneNested net
refuted net s (OfSid t) in_s in_t (inside, other) none = other (none.sids s t in_s in_t inside)
refuted net s (OfRoute r) in_s (in_r, v6) inside none = none.routes s r in_s in_r v6 inside
refuted net s (OfAddress n) in_s in_n inside none = none.addresses s n in_s in_n inside

pub some_nested : (net : Network) (s : SidEntry) (e : InnerEntry) → IsFirst (IsNested net) net.sids (inner_entries net) s e
    → ¬ NoneNested net
some_nested net s e first none =
    let (in_s, in_e, pair) = first_among (IsNested net) net.sids (inner_entries net) s e first in
    refuted net s e in_s (entries_among net e in_e) pair none

-- ---- one refusal after the other

clash_judges : (net : Network) → net.hidden ≡ [] → NoneNested net → NoneZero net → NoneMixed net
    → AreJudged is_clash IsClash clash clash_is net.sids net.sids (no_clash net) → IsJudged net (no_clash net)
clash_judges net whole nested zero mixed (inl (none, e)) =
    subst (IsJudged net) (sym e)
    (record { whole = whole; nested = nested; zero = zero; mixed = mixed; clash = none_among IsClash net.sids net.sids none })
clash_judges net whole nested zero mixed (inr (s, t, first, e)) =
    subst (IsJudged net) (sym e)
    (record {
      none_nested = nested;
      none_zero = zero;
      none_mixed = mixed;
      earlier = s;
      later = t;
      first = first;
      in_order = clash_in_order net.sids s t first;
      its_prefix = refl;
      its_node = refl;
      other_node = refl;
    })

mixed_judges : (net : Network) → net.hidden ≡ [] → NoneNested net → NoneZero net
    → AreJudged is_mixed IsMixed mixed_block mixed_is net.blocks net.sids (no_mixed net)
    → IsJudged net (or_later (no_mixed net) (no_clash net))
mixed_judges net whole nested zero (inl (none, e)) =
    subst (IsJudged net) (sym (ap (λ r. or_later r (no_clash net)) e))
    (clash_judges net whole nested zero (none_among IsMixed net.blocks net.sids none)
    (are_judged is_clash IsClash clash clash_is net.sids net.sids))
mixed_judges net whole nested zero (inr (b, s, first, e)) =
    subst (IsJudged net) (sym (ap (λ r. or_later r (no_clash net)) e))
    (record {
      none_nested = nested;
      none_zero = zero;
      block = b;
      sid = s;
      first = first;
      its_block = refl;
      its_prefix = refl;
    })

zero_judges : (net : Network) → net.hidden ≡ [] → NoneNested net → AreJudged is_zero_in IsZeroIn zero_csid zero_is net.sids net.blocks
    (no_zero net)
    → IsJudged net (or_later (no_zero net) (or_later (no_mixed net) (no_clash net)))
zero_judges net whole nested (inl (none, e)) =
    subst (IsJudged net) (sym (ap (λ r. or_later r (or_later (no_mixed net) (no_clash net))) e))
    (mixed_judges net whole nested (none_among IsZeroIn net.sids net.blocks none)
    (are_judged is_mixed IsMixed mixed_block mixed_is net.blocks net.sids))
zero_judges net whole nested (inr (s, b, first, e)) =
    subst (IsJudged net) (sym (ap (λ r. or_later r (or_later (no_mixed net) (no_clash net))) e))
    (record { none_nested = nested; sid = s; block = b; first = first; its_prefix = refl })

nested_judges : (net : Network) → net.hidden ≡ []
    → AreJudged (is_nested net) (IsNested net) nested (nested_is net) net.sids (inner_entries net) (no_nested net)
    → IsJudged net (flatness_of net)
nested_judges net whole (inl (none, e)) =
    subst (IsJudged net) (sym (ap (λ r. or_later r (or_later (no_zero net) (or_later (no_mixed net) (no_clash net)))) e))
    (zero_judges net whole (none_nested_from net none) (are_judged is_zero_in IsZeroIn zero_csid zero_is net.sids net.blocks))
nested_judges net whole (inr (s, inner, first, e)) =
    subst (IsJudged net) (sym (ap (λ r. or_later r (or_later (no_zero net) (or_later (no_mixed net) (no_clash net)))) e))
    (record { sid = s; entry = inner; first = first; its_prefix = refl; inner_prefix = refl })

pub flatness_judges : (net : Network) → net.hidden ≡ [] → IsJudged net (flatness_of net)
flatness_judges net whole = nested_judges net whole (are_judged (is_nested net) (IsNested net) nested (nested_is net) net.sids
    (inner_entries net))

-- what is refused is not flat
ok_where_flat : (net : Network) (r : Result (Unit {0}) NotFlat) → IsJudged net r → IsOk r ↔ IsFlat net
ok_where_flat net (Ok accepted) flat = (λ _. flat, λ _. refl)
ok_where_flat net (Err (Nested outer inner)) is =
    (λ ok. absurd (let e = ok in cc), λ flat. absurd (some_nested net is.sid is.entry is.first flat.nested))
ok_where_flat net (Err (ZeroCsid prefix)) is =
    let (in_sids, in_blocks, pair) = first_among IsZeroIn net.sids net.blocks is.sid is.block is.first in
    (λ ok. absurd (let e = ok in cc), λ flat. absurd (flat.zero is.sid is.block in_sids in_blocks pair))
ok_where_flat net (Err (MixedBlock block prefix)) is =
    let (in_blocks, in_sids, pair) = first_among IsMixed net.blocks net.sids is.block is.sid is.first in
    (λ ok. absurd (let e = ok in cc), λ flat. absurd (flat.mixed is.block is.sid in_blocks in_sids pair))
ok_where_flat net (Err (Clash prefix first second)) is =
    let (in_sids, also, pair) = first_among IsClash net.sids net.sids is.earlier is.later is.first in
    (λ ok. absurd (let e = ok in cc), λ flat. absurd (flat.clash is.earlier is.later in_sids also pair))

pub flatness_ok : (net : Network) → net.hidden ≡ [] → IsOk (flatness_of net) ↔ IsFlat net
flatness_ok net whole = ok_where_flat net (flatness_of net) (flatness_judges net whole)

-- flatness doesn't look at what is hidden
flatness_hidden : (net : Network) (hidden : List Hit) → flatness_of (record net { hidden = hidden }) ≡ flatness_of net
unfolding is_nest
flatness_hidden net hidden = refl

pub flatness_of_parts : (p : NetParts) (net : Network) → record (network_of p) { hidden = net.hidden } ≡ net
    → flatness_of (network_of p) ≡ flatness_of net
flatness_of_parts p net same = sym (flatness_hidden (network_of p) net.hidden) ∙ ap flatness_of same
