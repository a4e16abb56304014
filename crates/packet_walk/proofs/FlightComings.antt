-- The packets of a flight under a schedule: what an entry gives, what is due after the last, and what a turn leaves.
use Rattle.std.proofs.Common.{◌≡◌, ◌≢◌, ℕ, zero, suc, ◌<◌, nat_eq, List, [], ◌∷◌, ◌++◌, length, map, drop, get_or, slice_get, slice_set, Option, Some, None, IsSome, is_some, refl, sym, ap, ◌∙◌, arith, subst}
use Rattle.std.specs.List.{IsDistinct}
use Rattle.std.specs.List.Sorted.{IsStrictlyIncreasing}
use Rattle.std.proofs.lemmas.Bool.{eq-eqb, ne_eqb, false≢true}
use Rattle.std.proofs.lemmas.Bool.Decides.{Decides-eqb}
use Rattle.std.proofs.lemmas.Option.{slice_get_within}
use Rattle.std.proofs.lemmas.List.Kept.{AllPairs-from_increasing}
use Rattle.std.proofs.lemmas.Map.Made.{IsDistinct-from_AllPairs}
use Rattle.net_model.specs.Network.{Network}
use Rattle.walk_rules.specs.declared.place.Ended.{Ended}
use Rattle.walk_rules.specs.Walk.{Stage}
use Rattle.packet_walk.specs.Flight.{InFlight, Flight, stage_in, staged, packet_of}
use Rattle.packet_walk.specs.FlightTerms.{IsCounted}
use Rattle.packet_walk.specs.Rest.{rest_of}
use Rattle.packet_walk.specs.Schedule.{Coming, Taken, steps_of, without_first, all_of, one_by_one, scheduled, frame_of, stages_of}
use Rattle.packet_walk.specs.ScheduleTerms.{comings, comings_of}
use Rattle.packet_walk.proofs.FlightRests.{rest_going, rest_ended}
use Rattle.packet_walk.proofs.Schedules.{steps_head, steps_tail, without_head, without_tail, stages_scheduled}

some_is : {X : Type 0} (x y : X) → Some x ≡ Some y → x ≡ y
some_is x y e = cc

-- numbers that rise differ
pub rising_distinct : (numbers : List ℕ) → IsStrictlyIncreasing numbers → IsDistinct nat_eq numbers
rising_distinct numbers rising =
    IsDistinct-from_AllPairs Decides-eqb numbers
    (λ i j d before within same. omega (arith, AllPairs-from_increasing numbers rising i j d before within, same))

-- each packet has the number of its place
pub numbers_of : (net : Network) (numbers : List ℕ) (packets : List InFlight) → length numbers ≡ length packets
    → map (λ (c : Coming). c.number) (comings net numbers packets) ≡ numbers
numbers_of net [] packets each = refl
numbers_of net (number ∷ numbers) [] each = absurd (omega (arith, each))
numbers_of net (number ∷ numbers) (p ∷ packets) each =
    ap (λ ns. number ∷ ns) (numbers_of net numbers packets (omega (arith, each)))

module _ (net : Network) where
  abbrev at : ℕ → InFlight → Coming
  at number p = record { number = number; steps = rest_of net p }

  -- a number that no packet has
  pub steps_absent : (entry : ℕ) (numbers : List ℕ) (packets : List InFlight)
      → ((i : ℕ) → i < length numbers → get_or numbers i 0 ≢ entry) → steps_of entry (comings net numbers packets) ≡ []
  steps_absent entry [] packets apart = refl
  steps_absent entry (number ∷ numbers) [] apart = refl
  steps_absent entry (number ∷ numbers) (p ∷ packets) apart =
      steps_tail entry (at number p) (comings net numbers packets) (ne_eqb entry number (λ e. apart 0 (omega arith) (sym e)))
      ∙ steps_absent entry numbers packets (λ i within. apart (suc i) (omega (arith, within)))

  -- the number of the packet at a place
  module _ (p : InFlight) where
    pub steps_at : (numbers : List ℕ) (packets : List InFlight) (k entry : ℕ) → length numbers ≡ length packets
        → slice_get packets k ≡ Some p → entry ≡ get_or numbers k 0 → ((i : ℕ) → i < k → get_or numbers i 0 < entry)
        → steps_of entry (comings net numbers packets) ≡ rest_of net p
    steps_at [] [] k entry each there is below = cc
    steps_at [] (q ∷ packets) k entry each there is below = absurd (omega (arith, each))
    steps_at (number ∷ numbers) [] k entry each there is below = absurd (omega (arith, each))
    steps_at (number ∷ numbers) (q ∷ packets) zero entry each there is below =
        steps_head entry (at number q) (comings net numbers packets) (eq-eqb entry number is)
        ∙ ap (rest_of net) (some_is q p there)
    steps_at (number ∷ numbers) (q ∷ packets) (suc k) entry each there is below =
        steps_tail entry (at number q) (comings net numbers packets)
        (ne_eqb entry number (λ e. let l : number < entry = below 0 (omega arith) in omega (arith, e, l)))
        ∙ steps_at numbers packets k entry (omega (arith, each)) there is (λ i before. below (suc i) (omega (arith, before)))

    -- another packet stands at its place, of which all but the first step is to come
    pub without_at : (q : InFlight) → rest_of net q ≡ drop 1 (rest_of net p)
        → (numbers : List ℕ) (packets : List InFlight) (k entry : ℕ) → length numbers ≡ length packets
        → slice_get packets k ≡ Some p → entry ≡ get_or numbers k 0 → ((i : ℕ) → i < k → get_or numbers i 0 < entry)
        → without_first entry (comings net numbers packets) ≡ comings net numbers (slice_set packets k q)
    without_at q later [] [] k entry each there is below = cc
    without_at q later [] (r ∷ packets) k entry each there is below = absurd (omega (arith, each))
    without_at q later (number ∷ numbers) [] k entry each there is below = absurd (omega (arith, each))
    without_at q later (number ∷ numbers) (r ∷ packets) zero entry each there is below =
        without_head entry (at number r) (comings net numbers packets) (eq-eqb entry number is)
        ∙ ap (λ (steps : List Stage). record { number = number; steps = steps } ∷ comings net numbers packets)
        (ap (λ x. drop 1 (rest_of net x)) (some_is r p there) ∙ sym later)
    without_at q later (number ∷ numbers) (r ∷ packets) (suc k) entry each there is below =
        without_tail entry (at number r) (comings net numbers packets)
        (ne_eqb entry number (λ e. let l : number < entry = below 0 (omega arith) in omega (arith, e, l)))
        ∙ ap (λ cs. at number r ∷ cs)
        (without_at q later numbers packets k entry (omega (arith, each)) there is (λ i before. below (suc i) (omega (arith, before))))

  -- after the last entry

  all_none : (number : ℕ) (p : InFlight) (more : List Taken) → rest_of net p ≡ [] → all_of number (rest_of net p) ++ more ≡ more
  all_none number p more none = ap (λ steps. all_of number steps ++ more) none

  -- where all packets have ended none is due
  pub out_none : (numbers : List ℕ) (packets : List InFlight)
      → ((i : ℕ) (q : InFlight) → slice_get packets i ≡ Some q → rest_of net q ≡ [])
      → one_by_one (comings net numbers packets) ≡ []
  out_none [] packets none = refl
  out_none (number ∷ numbers) [] none = refl
  out_none (number ∷ numbers) (q ∷ packets) none =
      all_none number q (one_by_one (comings net numbers packets)) (none 0 q refl)
      ∙ out_none numbers packets (λ i r there. none (suc i) r there)

  -- where those before it have ended, the next stage of the packet at a place is due first
  pub out_at : (p q : InFlight) (s : Stage) → rest_of net p ≡ s ∷ rest_of net q
      → (numbers : List ℕ) (packets : List InFlight) (k : ℕ) → length numbers ≡ length packets → slice_get packets k ≡ Some p
      → ((i : ℕ) (r : InFlight) → i < k → slice_get packets i ≡ Some r → rest_of net r ≡ [])
      → one_by_one (comings net numbers packets)
      ≡ record { number = get_or numbers k 0; step = s; behind = rest_of net q }
      ∷ one_by_one (comings net numbers (slice_set packets k q))
  out_at p q s next [] [] k each there none = cc
  out_at p q s next [] (r ∷ packets) k each there none = absurd (omega (arith, each))
  out_at p q s next (number ∷ numbers) [] k each there none = absurd (omega (arith, each))
  out_at p q s next (number ∷ numbers) (r ∷ packets) zero each there none =
      ap (λ steps. all_of number steps ++ one_by_one (comings net numbers packets)) (ap (rest_of net) (some_is r p there) ∙ next)
  out_at p q s next (number ∷ numbers) (r ∷ packets) (suc k) each there none =
      let t : Taken = record { number = get_or numbers k 0; step = s; behind = rest_of net q } in
      let over : rest_of net r ≡ [] = none 0 r (omega arith) refl in
      all_none number r (one_by_one (comings net numbers packets)) over
      ∙ (out_at p q s next numbers packets k (omega (arith, each)) there (λ i x before. none (suc i) x (omega (arith, before)))
      ∙ ap (λ ts. t ∷ ts) (sym (all_none number r (one_by_one (comings net numbers (slice_set packets k q))) over)))

-- a packet has ended exactly where no step of its walk is to come

over_where : (net : Network) (p : InFlight) (e : Option Ended) → p.ended ≡ e → IsSome e → rest_of net p ≡ []
over_where net p None is some = absurd (false≢true some)
over_where net p (Some end) is some = rest_ended net p end is

pub rest_over : (net : Network) (p : InFlight) → IsSome p.ended → rest_of net p ≡ []
rest_over net p some = over_where net p p.ended refl some

cons≢nil : (s : Stage) (more : List Stage) → s ∷ more ≡ [] → ⊥
cons≢nil s more e = cc

ended_where : (net : Network) (p : InFlight) (e : Option Ended) → p.ended ≡ e → IsCounted p → rest_of net p ≡ [] → IsSome e
ended_where net p None is counted none =
    absurd (cons≢nil (stage_in net p) (rest_of net (staged net p)) (sym (rest_going net p is (counted.left is)) ∙ none))
ended_where net p (Some end) is counted none = refl

pub over_ended : (net : Network) (p : InFlight) → IsCounted p → rest_of net p ≡ [] → IsSome p.ended
over_ended net p counted none = ended_where net p p.ended refl counted none

pub going_ended : (p : InFlight) → p.ended ≡ None → IsSome p.ended → ⊥
going_ended p going some = false≢true (sym (ap is_some going) ∙ some)

-- of the packets of a flight

packet_steps : (f : Flight) (numbers : List ℕ) (number : ℕ) (p : InFlight) → IsStrictlyIncreasing numbers
    → length numbers ≡ length f.packets → packet_of f number ≡ Some p
    → steps_of (frame_of numbers number) (comings_of numbers f) ≡ rest_of f.net p
packet_steps f numbers zero p rising each there = cc
packet_steps f numbers (suc place) p rising each there =
    let within : place < length f.packets = slice_get_within f.packets place p there in
    steps_at f.net p numbers f.packets place (get_or numbers place 0) each there refl
    (λ i before. AllPairs-from_increasing numbers rising i place 0 before (omega (arith, each, within)))

pub packet_stages : (f : Flight) (numbers schedule : List ℕ) (number : ℕ) (p : InFlight) → IsStrictlyIncreasing numbers
    → length numbers ≡ length f.packets → packet_of f number ≡ Some p
    → stages_of (frame_of numbers number) (scheduled schedule (comings_of numbers f)) ≡ all_of (frame_of numbers number) (rest_of f.net p)
packet_stages f numbers schedule number p rising each there =
    stages_scheduled (frame_of numbers number) schedule (comings_of numbers f)
    (subst (IsDistinct nat_eq) (sym (numbers_of f.net numbers f.packets each)) (rising_distinct numbers rising))
    ∙ ap (all_of (frame_of numbers number)) (packet_steps f numbers number p rising each there)
