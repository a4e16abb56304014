-- What is found at an address is the container that is there.
use Rattle.std.proofs.Common.{◌≡◌, ◌↔◌, ℕ, Bool, true, false, ◌&&◌, ◌==◌, List, [], ◌∷◌, length, map, Option, Some, None, refl, sym, ◌∙◌, ap, subst}
use Rattle.std.specs.Prelude.{IsTrue, Result, Ok, Err, IfOk}
use Rattle.std.specs.Option.{option_map}
use Rattle.std.proofs.lemmas.Bool.{eqb-true, eq-eqb, false≢true}
use Rattle.v6_addr.specs.Address.{PrefixValue}
use Rattle.v6_addr.specs.declared.address.Addr.{Addr}
use Rattle.net_model.specs.declared.parts.Block.{Block}
use Rattle.net_model.specs.Network.{Network}
use Rattle.net_model.specs.NetworkRulesTerms.{IsNetwork}
use Rattle.net_flatness.specs.Flat.{IsFlat}
use Rattle.sid_list_spec.specs.SegmentLists.{SidBlock}
use Rattle.list_pack.specs.declared.types.Container.{Container}
use Rattle.list_pack.specs.declared.types.Container.TheVariants.{Full, Packed}
use Rattle.list_pack.specs.SegmentValues.{addr_value}
use Rattle.list_pack.specs.SidLists.{IsLegalList, list_values, sid_block}
use Rattle.segment_reading.specs.Readings.{AreAt, IsAt, IsFullAt, IsPackedAt, LongestOf, equal_values}
use Rattle.segment_reading.specs.Spellings.{IsSpelled}
use Rattle.segment_reading.proofs.ListReads.{spelled_at}
use Rattle.segment_reading.proofs.ReadingFull.{full_longest}

-- ---- one container

module _ (net : Network) (network : IsNetwork net) (flat : IsFlat net) (address : ℕ) where
  pub full_found : (first : PrefixValue) (more : List PrefixValue) → LongestOf net.sids (length net.sids) address (Some first)
      → ((others : List PrefixValue) → IsFullAt net first others address → more ≡ others) → (c : Container) → IsAt net None c address
      → Path (Option Container) (Some (Full first more)) (Some c)
  full_found first more longest reads (Packed p qs) is = absurd is
  full_found first more longest reads (Full p qs) is =
      let some : Path (Option PrefixValue) (Some first) (Some p) = full_longest net network flat p qs address is (Some first) longest in
      let same : first ≡ p = cc in
      let rest = reads qs (subst (λ (x : PrefixValue). IsFullAt net x qs address) (sym same) is) in
      ap Some (ap (λ (x : PrefixValue). Full x more) same ∙ ap (λ (xs : List PrefixValue). Full p xs) rest)

  pub full_lost : LongestOf net.sids (length net.sids) address None → (c : Container) → IsAt net None c address
      → Path (Option Container) None (Some c)
  full_lost none (Packed p qs) is = absurd is
  full_lost none (Full p qs) is =
      let some : Path (Option PrefixValue) None (Some p) = full_longest net network flat p qs address is None none in absurd (cc)

pub packed_found : (net : Network) (b : SidBlock) (address : ℕ) (prefixes : List PrefixValue) (found : Option Container)
    → ((sids : List PrefixValue) → IsPackedAt net b sids address → prefixes ≡ sids)
    → ((p : PrefixValue) (more : List PrefixValue) → prefixes ≡ p ∷ more → found ≡ Some (Packed p more)) → (c : Container)
    → IsAt net (Some b) c address → found ≡ Some c
packed_found net b address prefixes found reads is_found (Full p more) is = absurd is
packed_found net b address prefixes found reads is_found (Packed p more) is = is_found p more (reads (p ∷ more) is)

pub packed_result : {E : Type 0} (net : Network) (o : Option Block) (b : Block) (address : ℕ) (prefixes items : List PrefixValue)
    (result : Result (Option Container) E) → o ≡ Some b → prefixes ≡ items
    → ((sids : List PrefixValue) → IsPackedAt net (sid_block b) sids address → items ≡ sids)
    → IfOk result (λ found. (p : PrefixValue) (more : List PrefixValue) → prefixes ≡ p ∷ more → found ≡ Some (Packed p more))
    → IfOk result (λ found. (c : Container) → IsAt net (option_map sid_block o) c address → found ≡ Some c)
packed_result net o b address prefixes items (Ok found) is_b same reads told =
    λ c is. packed_found net (sid_block b) address prefixes found (λ sids at. same ∙ reads sids at) told c
    (subst (λ (x : Option Block). IsAt net (option_map sid_block x) c address) is_b is)
packed_result net o b address prefixes items (Err e) is_b same reads told = tt

-- ---- a whole list

equal_decides : (a b : List Addr) → equal_values a b ≡ true → map addr_value a ≡ map addr_value b
equal_decides [] [] e = refl
equal_decides [] (y ∷ ys) e = absurd (false≢true e)
equal_decides (x ∷ xs) [] e = absurd (false≢true e)
equal_decides (x ∷ xs) (y ∷ ys) e = by (equal_decides xs ys) (x.value == y.value) refl e
  where
    by : (equal_values xs ys ≡ true → map addr_value xs ≡ map addr_value ys) → (t : Bool) → (x.value == y.value) ≡ t
        → (t && equal_values xs ys) ≡ true → map addr_value (x ∷ xs) ≡ map addr_value (y ∷ ys)
    by later true same rest =
        ap (λ (n : ℕ). n ∷ map addr_value xs) (eqb-true x.value y.value same) ∙ ap (λ (ns : List ℕ). y.value ∷ ns) (later rest)
    by later false same rest = absurd (false≢true rest)

equal_of : (a b : List Addr) → map addr_value a ≡ map addr_value b → equal_values a b ≡ true
equal_of [] [] e = refl
equal_of [] (y ∷ ys) e = absurd (cc)
equal_of (x ∷ xs) [] e = absurd (cc)
equal_of (x ∷ xs) (y ∷ ys) e =
    let first : x.value ≡ y.value = cc in
    let rest : map addr_value xs ≡ map addr_value ys = cc in
    ap (λ (t : Bool). t && equal_values xs ys) (eq-eqb x.value y.value first) ∙ equal_of xs ys rest

module _ (net : Network) (segments values : List Addr) (list : List Container) (told : map addr_value values ≡ list_values net list) where
  pub spelled_by : (b : Bool) → b ≡ equal_values values segments → IsLegalList net list → IsTrue b ↔ IsSpelled net segments list
  spelled_by b test legal = (
    λ yes. record { legal = legal; values = sym told ∙ equal_decides values segments (sym test ∙ yes) },
    λ is. test ∙ equal_of values segments (told ∙ is.values),
  )

pub spelled_not : (net : Network) (segments : List Addr) (list : List Container) (legal b : Bool) → legal ≡ false → b ≡ false
    → (IsTrue legal ↔ IsLegalList net list) → IsTrue b ↔ IsSpelled net segments list
spelled_not net segments list legal b illegal none test = (
  λ yes. absurd (false≢true (sym none ∙ yes)),
  λ is. absurd (false≢true (sym illegal ∙ test.1 is.legal)),
)

module _ (net : Network) (segments : List Addr) (network : IsNetwork net) (flat : IsFlat net) where
  pub none_spelled : ((list : List Container) → AreAt net None list (map addr_value segments) → Path (Option (List Container)) None (Some list))
      → (list : List Container) → ¬ IsSpelled net segments list
  none_spelled none list is = let e = none list (spelled_at net segments list network flat is) in absurd (cc)

  pub other_spelled : (found : List Container) (b : Bool)
      → ((list : List Container) → AreAt net None list (map addr_value segments) → Path (Option (List Container)) (Some found) (Some list))
      → b ≡ false → (IsTrue b ↔ IsSpelled net segments found) → (list : List Container) → ¬ IsSpelled net segments list
  other_spelled found b one other test list is =
      let e = one list (spelled_at net segments list network flat is) in
      let same : list ≡ found = cc in
      false≢true (sym other ∙ test.1 (subst (IsSpelled net segments) same is))
