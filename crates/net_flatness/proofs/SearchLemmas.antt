-- The first entry inside a SID, and that where a table of the SIDs' prefixes has none around an entry, no pair is nested.
use Rattle.std.proofs.Common.{◌≡◌, ℕ, ◌+◌, ◌≤◌, Bool, true, false, length, inl, inr, List, [], ◌∷◌, ◌++◌, map, find, Option, Some, None, Result, Ok, Err, refl, sym, ap, ◌∙◌, subst, arith}
use Rattle.std.specs.List.{slice_get, filter, Contains, list_any}
use Rattle.std.specs.Option.{option_or, option_map}
use Rattle.std.proofs.lemmas.Bool.{cases_Bool, cases_lt, both_ways, and_from, not_from_false}
use Rattle.std.proofs.lemmas.Option.{same_Some, slice_get_within}
use Rattle.std.proofs.lemmas.List.Folds.{find-append}
use Rattle.v6_addr.specs.Address.{PrefixValue, IsInside}
use Rattle.v6_addr.proofs.PublicLaws.{is_inside_is}
use Rattle.srv6_rules.specs.declared.sid.SidEntry.{SidEntry}
use Rattle.prefix_table.specs.PrefixTable.{HasAround}
use Rattle.net_model.specs.declared.parts.Node.{Node}
use Rattle.net_model.specs.declared.parts.Route.{Route}
use Rattle.net_model.specs.Network.{Network}
use Rattle.net_model.proofs.PublicLaws.{get_from_contains, contains_none, contains_cases, same_family_from}
use Rattle.net_flatness.specs.declared.not_flat.NotFlat.{NotFlat}
use Rattle.net_flatness.specs.declared.not_flat.NotFlat.TheVariants.{Nested}
use Rattle.net_flatness.specs.NestTests.{is_nest}
use Rattle.net_flatness.specs.Flat.{InnerEntry, OfSid, OfRoute, OfAddress, entry_prefix, address_prefix, is_ipv6_route, inner_entries, is_nested, nested, pair_or, first_pair, no_nested, NoneNested}
use Rattle.net_flatness.specs.FlatTerms.{IsNested}
use Rattle.net_flatness.specs.Search.{sid_prefix, route_prefix, is_nested_sid, is_wrongly_in, first_inside, first_nested, first_refused, FirstAre, HaveTheirPrefixes, NoneAround, NestsWell, AllNestWell, Unless}
use Rattle.net_flatness.proofs.PairLemmas.{are_judged}
use Rattle.net_flatness.proofs.PairMeanings.{nested_is}
use Rattle.net_flatness.proofs.NestLemmas.{nest_is}
use Rattle.net_flatness.proofs.FlatLemmas.{contains_filtered, some_nested}

-- ---- the first entry

module _ (net : Network) (outer : SidEntry) where
  -- the prefix of the first nested entry
  abbrev first_of : List InnerEntry → Option PrefixValue
  first_of es = option_map entry_prefix (find (is_nested net outer) es)

  sids_first : (ss : List SidEntry) → first_of (map OfSid ss) ≡ option_map sid_prefix (find (is_nested_sid net outer) ss)
  sids_first [] = refl
  sids_first (s ∷ ss) =
      elim (cases_Bool (is_nested_sid net outer s)) [
        | inl mine ↦ rw mine refl
        | inr off ↦ rw off (sids_first ss)
      ]

  routes_first : (rs : List Route) → first_of (map OfRoute rs) ≡ first_inside outer.prefix (map route_prefix rs)
  routes_first [] = refl
  routes_first (r ∷ rs) =
      elim (cases_Bool (is_nested net outer (OfRoute r))) [
        | inl mine ↦ rw mine refl
        | inr off ↦ rw off (routes_first rs)
      ]

  addresses_first : (ns : List Node) → first_of (map OfAddress ns) ≡ first_inside outer.prefix (map address_prefix ns)
  addresses_first [] = refl
  addresses_first (n ∷ ns) =
      elim (cases_Bool (is_nested net outer (OfAddress n))) [
        | inl mine ↦ rw mine refl
        | inr off ↦ rw off (addresses_first ns)
      ]

  map_or : (a b : Option InnerEntry)
      → option_map entry_prefix (option_or a b) ≡ option_or (option_map entry_prefix a) (option_map entry_prefix b)
  map_or None b = refl
  map_or (Some e) b = refl

  append_first : (xs ys : List InnerEntry) → first_of (xs ++ ys) ≡ option_or (first_of xs) (first_of ys)
  append_first xs ys =
      ap (option_map entry_prefix) (find-append (is_nested net outer) xs ys)
      ∙ map_or (find (is_nested net outer) xs) (find (is_nested net outer) ys)

  -- the first of three lists in a row
  joined : (ss : List SidEntry) (rs : List Route) (ns : List Node)
      → first_of (map OfSid ss ++ (map OfRoute rs ++ map OfAddress ns))
      ≡ option_or (option_map sid_prefix (find (is_nested_sid net outer) ss))
      (option_or (first_inside outer.prefix (map route_prefix rs)) (first_inside outer.prefix (map address_prefix ns)))
  joined ss rs ns =
      append_first (map OfSid ss) (map OfRoute rs ++ map OfAddress ns)
      ∙ (ap (λ (o : Option PrefixValue). option_or o (first_of (map OfRoute rs ++ map OfAddress ns))) (sids_first ss)
      ∙ ap (λ (o : Option PrefixValue). option_or (option_map sid_prefix (find (is_nested_sid net outer) ss)) o)
      (append_first (map OfRoute rs) (map OfAddress ns)
      ∙ (ap (λ (o : Option PrefixValue). option_or o (first_of (map OfAddress ns))) (routes_first rs)
      ∙ ap (λ (o : Option PrefixValue). option_or (first_inside outer.prefix (map route_prefix rs)) o) (addresses_first ns))))

-- the first entry of all
pub first_of_all : (net : Network) (outer : SidEntry)
    → option_map entry_prefix (first_nested net outer)
    ≡ option_or (option_map sid_prefix (find (is_nested_sid net outer) net.sids))
    (option_or (first_inside outer.prefix (map route_prefix (filter is_ipv6_route net.routes)))
    (first_inside outer.prefix (map address_prefix net.nodes)))
unfolding first_nested
first_of_all net outer = joined net outer net.sids (filter is_ipv6_route net.routes) net.nodes

-- one refusal after the other
pub pairs_refused : (net : Network) (sids : List SidEntry)
    → first_pair (is_nested net) nested (inner_entries net) sids ≡ first_refused net sids
unfolding first_nested
pairs_refused net [] = refl
pairs_refused net (s ∷ ss) = ap (pair_or nested s (find (is_nested net s) (inner_entries net))) (pairs_refused net ss)

-- the refusal has the prefix of the entry
pub refused_for : (s : SidEntry) (found : Option InnerEntry) (p : PrefixValue) (later : Result (Unit {0}) NotFlat)
    → option_map entry_prefix found ≡ Some p → pair_or nested s found later ≡ Err (Nested s.prefix p)
refused_for s None p later e = cc
refused_for s (Some inner) p later e = ap (λ (q : PrefixValue). Err (Nested s.prefix q)) (same_Some (entry_prefix inner) p e)

pub passed_over : (s : SidEntry) (found : Option InnerEntry) (later : Result (Unit {0}) NotFlat) → option_map entry_prefix found ≡ None
    → pair_or nested s found later ≡ later
passed_over s None later e = refl
passed_over s (Some inner) later e = cc

-- ---- tables

-- one more item
pub first_holds_more : {X : Type 0} (P : X → Type 0) (xs : List X) (count : ℕ) (x : X) → slice_get xs count ≡ Some x → P x
    → FirstAre P xs count → FirstAre P xs (count + 1)
first_holds_more P xs count x here holds so k y less e =
    elim (cases_lt k count) as (λ w. P y) [
      | inl low ↦ so k y low e
      | inr high ↦
          let same : k ≡ count = omega (arith, less, high) in
          subst P (same_Some x y (sym here ∙ ap (slice_get xs) (sym same) ∙ e)) holds
    ]

pub all_first : {X : Type 0} (P : X → Type 0) (xs : List X) (count : ℕ) → length xs ≤ count → FirstAre P xs count → (k : ℕ) (x : X)
    → slice_get xs k ≡ Some x → P x
all_first P xs count h so k x e = let within = slice_get_within xs k x e in so k x (omega (arith, within, h)) e

pub all_contained : {X : Type 0} (P : X → Type 0) (xs : List X) (count : ℕ) → length xs ≤ count → FirstAre P xs count → (x : X)
    → Contains xs x → P x
all_contained P xs count h so x c = let (k, at) = get_from_contains xs x c in all_first P xs count h so k x at

none_any : {X : Type 0} (p : X → Bool) (xs : List X) → list_any p xs ≡ false → (x : X) → Contains xs x → p x ≡ false
none_any p [] none x c = absurd (contains_none x c)
none_any p (y ∷ ys) none x c =
    elim (cases_Bool (p y)) [
      | inl mine ↦ absurd (let e : true ≡ false = rw mine at none in cc)
      | inr off ↦ elim (contains_cases y ys x c) [
        | inl is ↦ subst (λ z. p z ≡ false) is off
        | inr more ↦ none_any p ys (rw off at none) x more
      ]
    ]

-- no SID is around another that is not nested in it
pub none_is_around : (net : Network) (inner : SidEntry) → list_any (is_wrongly_in net inner) net.sids ≡ false
    → NestsWell net inner
none_is_around net inner none outer there inside =
    let off = none_any (is_wrongly_in net inner) net.sids none outer there in
    elim (cases_Bool (is_nest net outer inner)) [
      | inl nest ↦ (nest_is net outer inner).0 nest
      | inr other ↦ absurd (both_ways _ off
          (and_from _ _ ((is_inside_is inner.prefix outer.prefix).1 inside) (not_from_false (is_nest net outer inner) other)))
    ]

module _ {T : Type 0} (net : Network) (table : List (PrefixValue × T)) (all : HaveTheirPrefixes net.sids table) where
  around : (s : SidEntry) (p : PrefixValue) → Contains net.sids s → IsInside p s.prefix → HasAround table p
  around s p c inside =
      let (k, at) = get_from_contains net.sids s c in
      let (t, there) = all k s at in
      ((s.prefix, t), there, inside)

  -- a SID with none around it nests well
  pub outermost : (inner : SidEntry) → ¬ HasAround table inner.prefix → NestsWell net inner
  outermost inner none outer c inside = absurd (none (around outer inner.prefix c inside))

  none_nested : NoneAround table route_prefix (filter is_ipv6_route net.routes) → NoneAround table address_prefix net.nodes
      → AllNestWell net net.sids → NoneNested net
  none_nested routes addresses sids = record {
    sids = λ s t in_s in_t inside. sids t in_t s in_s inside;
    routes = λ s r in_s in_r v6 inside.
        routes r (contains_filtered is_ipv6_route net.routes r (same_family_from _ _ v6) in_r) (around s r.prefix in_s inside);
    addresses = λ s n in_s in_n inside. addresses n in_n (around s (address_prefix n) in_s inside);
  }

-- the same by what three searches answer
found_none : {T : Type 0} (net : Network) (table : List (PrefixValue × T)) (route address sid : Bool) → HaveTheirPrefixes net.sids table
    → Unless route (NoneAround table route_prefix (filter is_ipv6_route net.routes))
    → Unless address (NoneAround table address_prefix net.nodes) → Unless sid (AllNestWell net net.sids) → route ≡ false → address ≡ false
    → sid ≡ false → NoneNested net
found_none net table true address sid all r a s e f g = absurd (let h : true ≡ false = e in cc)
found_none net table false true sid all r a s e f g = absurd (let h : true ≡ false = f in cc)
found_none net table false false true all r a s e f g = absurd (let h : true ≡ false = g in cc)
found_none net table false false false all r a s e f g = none_nested net table all r a s

pub none_found : {T : Type 0} (net : Network) (table : List (PrefixValue × T)) (route address sid : Bool) (xs zs : List SidEntry)
    (rs : List Route) (ns : List Node) → HaveTheirPrefixes xs table
    → Unless route (NoneAround table route_prefix (filter is_ipv6_route rs)) → Unless address (NoneAround table address_prefix ns)
    → Unless sid (AllNestWell net zs) → xs ≡ net.sids → rs ≡ net.routes → ns ≡ net.nodes → zs ≡ net.sids → route ≡ false
    → address ≡ false → sid ≡ false → NoneNested net
none_found net table route address sid xs zs rs ns all r a s same_xs same_rs same_ns same_zs =
    found_none net table route address sid (subst (λ (ss : List SidEntry). HaveTheirPrefixes ss table) same_xs all)
    (subst (λ (ss : List Route). Unless route (NoneAround table route_prefix (filter is_ipv6_route ss))) same_rs r)
    (subst (λ (ss : List Node). Unless address (NoneAround table address_prefix ss)) same_ns a)
    (subst (λ (ss : List SidEntry). Unless sid (AllNestWell net ss)) same_zs s)

-- without a nested pair there is no refusal
pub none_refused : (net : Network) → NoneNested net → Ok tt ≡ no_nested net
none_refused net none =
    elim (are_judged (is_nested net) (IsNested net) nested (nested_is net) net.sids (inner_entries net)) as (λ w. Ok tt ≡ no_nested net) [
      | inl ok ↦ sym ok.1
      | inr some ↦ absurd (some_nested net some.0 some.1 some.2 none)
    ]
