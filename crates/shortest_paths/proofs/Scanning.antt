-- The nearest node of the first ones that are not settled.
use Rattle.std.proofs.Common.{◌≡◌, ℕ, ◌+◌, ◌<◌, ◌≤◌, inl, inr, Bool, true, false, if◌then◌else◌, nat_lt, List, Option, Some, None, refl, sym, ◌∙◌, ap, subst, arith}
use Rattle.std.specs.Prelude.{MatchOption}
use Rattle.std.proofs.lemmas.Bool.{cases_lt, both_ways, ltb-true, ltb-false}
use Rattle.shortest_paths.specs.declared.nearest.Nearest.{Nearest}
use Rattle.shortest_paths.specs.Walks.{at}
use Rattle.shortest_paths.specs.Nearest.{nearer_of}
use Rattle.shortest_paths.specs.Settling.{Entries, is_settled, IsClosed, IsOpen, IsNearest, NoneIsOpen}
use Rattle.shortest_paths.proofs.Lists.{some_same}

module _ (entries : Entries) (settled : List Bool) (count : ℕ) where
  -- nothing that is open among the first ones is nearer
  abbrev pub AreFarther : ℕ → ℕ → Type 0
  AreFarther limit m =
      (node d : ℕ) → node < limit → is_settled settled node ≡ false → at entries node ≡ Some d → m ≤ d

  farther_more : (m : ℕ) → AreFarther count m → ((d : ℕ) → is_settled settled count ≡ false → at entries count ≡ Some d → m ≤ d)
      → AreFarther (count + 1) m
  farther_more m before here node d low unset has = elim (cases_lt node count) [
    | inl less ↦ before node d less unset has
    | inr more ↦
        let same : node ≡ count = omega arith in
        here d (ap (is_settled settled) (sym same) ∙ unset) (ap (at entries) (sym same) ∙ has)
  ]

  closed_farther : (m : ℕ) → NoneIsOpen entries settled count → AreFarther count m
  closed_farther m none node d low unset has = absurd (both_ways _ unset (none node low d has))

  closed_here : (m : ℕ) → IsClosed entries settled count → (d : ℕ) → is_settled settled count ≡ false → at entries count ≡ Some d
      → m ≤ d
  closed_here m closed d unset has = absurd (both_ways _ unset (closed d has))

  open_here : (b : Nearest) (m : ℕ) → b.node ≡ count → IsOpen entries settled b → m ≤ b.distance → (d : ℕ)
      → is_settled settled count ≡ false
      → at entries count ≡ Some d → m ≤ d
  open_here b m same is_open low d unset has =
      let e : b.distance ≡ d = some_same b.distance d (sym is_open.has ∙ (ap (at entries) same ∙ has)) in
      omega arith

  abbrev pub IsBest : ℕ → Option Nearest → Type 0
  IsBest limit best = MatchOption best (NoneIsOpen entries settled limit) (IsNearest entries settled limit)

  abbrev pub IsRead : Option Nearest → Type 0
  IsRead found =
      MatchOption found (IsClosed entries settled count) (λ near. (near.node ≡ count) × IsOpen entries settled near)

  pub scan_more : (best found : Option Nearest) → IsBest count best → IsRead found → IsBest (count + 1) (nearer_of best found)
  scan_more None None none closed = λ node low. (elim (cases_lt node count) [
    | inl less ↦ none node less
    | inr more ↦ let same : count ≡ node = omega arith in subst (λ (n : ℕ). IsClosed entries settled n) same closed
  ])
  scan_more None (Some b) none found = record {
    early = let e = found.0 in omega (arith, e);
    is_open = found.1;
    least = farther_more b.distance (closed_farther b.distance none) (open_here b b.distance found.0 found.1 (omega arith));
  }
  scan_more (Some a) None near closed = record {
    early = let e = near.early in omega (arith, e);
    is_open = near.is_open;
    least = farther_more a.distance near.least (closed_here a.distance closed);
  }
  scan_more (Some a) (Some b) near found = by_test (nat_lt b.distance a.distance) refl
    where
      by_test : (t : Bool) → nat_lt b.distance a.distance ≡ t → IsBest (count + 1) (if t then Some b else Some a)
      by_test true test =
          let less : b.distance < a.distance = ltb-true b.distance a.distance test in
          let low : (node d : ℕ) → node < count → is_settled settled node ≡ false → at entries node ≡ Some d → b.distance ≤ d =
          λ node d h unset has. (let k : a.distance ≤ d = near.least node d h unset has in omega arith) in
          record {
            early = let e = found.0 in omega (arith, e);
            is_open = found.1;
            least = farther_more b.distance low (open_here b b.distance found.0 found.1 (omega arith));
          }
      by_test false test =
          let more : a.distance ≤ b.distance = ltb-false b.distance a.distance test in
          record {
            early = let e = near.early in omega (arith, e);
            is_open = near.is_open;
            least = farther_more a.distance near.least (open_here b a.distance found.0 found.1 more);
          }
