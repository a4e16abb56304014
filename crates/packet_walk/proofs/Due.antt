-- How far a schedule has come in a flight: what an entry gives, what is due after the last, and what a turn leaves.
use Rattle.std.proofs.Common.{◌≡◌, ◌≢◌, ℕ, zero, suc, ◌+◌, ◌-◌, ◌<◌, ◌≤◌, eqb, nat_lt, Bool, true, false, List, [], ◌∷◌, ◌++◌, length, take, drop, get_or, Option, Some, None, IfSome, IsSome, is_some, Ok, Err, nat_cmp, refl, sym, ap, ap₂, ◌∙◌, ◌⊎◌, inl, inr, arith, subst, length-append}
use Rattle.std.specs.List.Sorted.{IsStrictlyIncreasing, IsBinarySearchResult}
use Rattle.std.proofs.lemmas.List.Sorted.{searched}
use Rattle.std.specs.Bool.{Decides}
use Rattle.std.specs.List.{IsAllAdjacentAnswer}
use Rattle.std.proofs.lemmas.Bool.{cases_lt, ltb-true, ltb-false, false≢true}
use Rattle.std.proofs.lemmas.Bool.Decides.{eqb_tells}
use Rattle.std.proofs.lemmas.List.{get_or_append_left, get_or_push, take_all}
use Rattle.std.proofs.lemmas.Option.{slice_get_within}
use Rattle.std.proofs.lemmas.List.Kept.{AllPairs-from_increasing}
use Rattle.walk_rules.specs.declared.place.Ended.{Ended}
use Rattle.packet_walk.specs.Flight.{InFlight, Flight, stage_in, staged, packet_of, turned}
use Rattle.packet_walk.specs.FlightTerms.{IsCounted, IsInFlight}
use Rattle.packet_walk.specs.Rest.{rest_of}
use Rattle.packet_walk.specs.Schedule.{steps_of, without_first, first_of, one_by_one, scheduled, frame_of}
use Rattle.packet_walk.specs.ScheduleTerms.{comings_of, next_of, Progress, progress, IsOf, due, IsTurnOf, IsNoTurn, GivesTo, EntryGives, IsLeft}
use Rattle.packet_walk.proofs.FlightNumbers.{length_with, given_packet, turned_going, turned_other}
use Rattle.packet_walk.proofs.FlightRests.{rest_going}
use Rattle.packet_walk.proofs.Schedules.{entry_none}
use Rattle.packet_walk.proofs.FlightComings.{steps_absent, steps_at, without_at, out_none, out_at, rest_over, going_ended}

-- a turn keeps how many there are

pub length_turned : (f : Flight) (number : ℕ) (p : InFlight) → packet_of f number ≡ Some p → p.ended ≡ None
    → length (turned number f).packets ≡ length f.packets
length_turned f number p there going =
    ap (λ (g : Flight). length g.packets) (turned_going number f p there going) ∙ length_with f.packets number (staged f.net p)

-- a turn of a packet that has not ended, after which as many are passed, or fewer

still_ended : (f : Flight) (at : Progress) (number : ℕ) (p : InFlight) → IsOf f at → packet_of f number ≡ Some p → p.ended ≡ None
    → (m : ℕ) (q : InFlight) → m ≤ at.passed → packet_of (turned number f) m ≡ Some q
    → ((eqb number m ≡ true) × (number ≡ m)) ⊎ ((eqb number m ≡ false) × (number ≢ m)) → IsSome q.ended
still_ended f at number p of there going m q few is (inl same) =
    absurd (going_ended p going (of.passed number p (omega (arith, same.1, few)) there))
still_ended f at number p of there going m q few is (inr apart) =
    of.passed m q few (sym (turned_other number m f apart.1) ∙ is)

pub of_turned : (f : Flight) (at : Progress) (number : ℕ) (p : InFlight) → IsOf f at → packet_of f number ≡ Some p → p.ended ≡ None
    → IsOf (turned number f) at
of_turned f at number p of there going =
    record {
      each = of.each ∙ sym (length_turned f number p there going);
      passed = λ m q few is. still_ended f at number p of there going m q few is (eqb_tells number m);
    }

-- what an entry gives

module _ (f : Flight) (numbers : List ℕ) (entry : ℕ) where
  -- to no packet, as none has its number
  pub gives_absent : ((i : ℕ) → i < length numbers → get_or numbers i 0 ≢ entry) → EntryGives numbers f entry None
  gives_absent apart schedule = entry_none entry schedule (comings_of numbers f) (steps_absent f.net entry numbers f.packets apart)

  module _ (place : ℕ) (p : InFlight) (rising : IsStrictlyIncreasing numbers) (each : length numbers ≡ length f.packets)
      (there : packet_of f (suc place) ≡ Some p) (is : entry ≡ get_or numbers place 0) where
    below : (i : ℕ) → i < place → get_or numbers i 0 < entry
    below i before =
        let within : place < length f.packets = slice_get_within f.packets place p there in
        let rises : get_or numbers i 0 < get_or numbers place 0 =
        AllPairs-from_increasing numbers rising i place 0 before (omega (arith, each, within)) in
        omega (arith, rises, is)

    its_steps : steps_of entry (comings_of numbers f) ≡ rest_of f.net p
    its_steps = steps_at f.net p numbers f.packets place entry each there is below

    -- to no packet, as its packet has ended
    pub gives_ended : IsSome p.ended → EntryGives numbers f entry None
    gives_ended over schedule = entry_none entry schedule (comings_of numbers f) (its_steps ∙ rest_over f.net p over)

    -- to its packet
    module _ (going : p.ended ≡ None) (counted : IsCounted p) where
      next : rest_of f.net p ≡ stage_in f.net p ∷ rest_of f.net (staged f.net p)
      next = rest_going f.net p going (counted.left going)

      after : without_first entry (comings_of numbers f) ≡ comings_of numbers (turned (suc place) f)
      after = without_at f.net p (staged f.net p) (sym (ap (drop 1) next)) numbers f.packets place entry each there is below
          ∙ sym (ap (comings_of numbers) (turned_going (suc place) f p there going))

      first_due : (schedule : List ℕ) → scheduled (entry ∷ schedule) (comings_of numbers f)
          ≡ next_of (frame_of numbers (suc place)) f.net p ∷ scheduled schedule (comings_of numbers (turned (suc place) f))
      first_due schedule =
          ap₂ (λ steps cs. first_of entry steps ++ scheduled schedule cs) (its_steps ∙ next) after
          ∙ ap (λ n. next_of n f.net p ∷ scheduled schedule (comings_of numbers (turned (suc place) f))) is

      pub gives_to : GivesTo numbers f entry (suc place)
      gives_to = record {
        given = record { first = omega arith; last = slice_get_within f.packets place p there };
        going = subst (λ (o : Option InFlight). IfSome o (λ q. q.ended ≡ None)) (sym there) going;
        first = λ schedule. subst (λ (o : Option InFlight). IfSome o (λ q. scheduled (entry ∷ schedule) (comings_of numbers f)
            ≡ next_of (frame_of numbers (suc place)) f.net q ∷ scheduled schedule (comings_of numbers (turned (suc place) f))))
            (sym there) (first_due schedule);
      }

-- what the search for its number gives

rising_up : (numbers : List ℕ) → IsStrictlyIncreasing numbers → (i j : ℕ) → i ≤ j → j < length numbers
    → get_or numbers i 0 ≤ get_or numbers j 0
rising_up numbers rising i j few within =
    elim (eqb_tells i j) [
      | inl same ↦ let e : get_or numbers i 0 ≡ get_or numbers j 0 = ap (λ (k : ℕ). get_or numbers k 0) same.1 in omega (arith, e)
      | inr apart ↦
          let l : get_or numbers i 0 < get_or numbers j 0 =
          AllPairs-from_increasing numbers rising i j 0 (omega (arith, few, apart.1)) within in
          omega (arith, l)
    ]

pub search_found : (numbers : List ℕ) (entry place : ℕ) → IsStrictlyIncreasing numbers
    → IsBinarySearchResult (λ y. nat_cmp y entry) numbers (Ok place) → (place < length numbers) × (get_or numbers place 0 ≡ entry)
search_found numbers entry place rising found = searched numbers entry (Ok place) found (rising_up numbers rising)

search_lost : (numbers : List ℕ) (entry place : ℕ) → IsStrictlyIncreasing numbers
    → IsBinarySearchResult (λ y. nat_cmp y entry) numbers (Err place) → (i : ℕ) → i < length numbers → get_or numbers i 0 ≢ entry
search_lost numbers entry place rising lost i within same =
    let parts = searched numbers entry (Err place) lost (rising_up numbers rising) in
    elim (cases_lt i place) [
      | inl below ↦ let l : get_or numbers i 0 < entry = parts.1 i below in omega (arith, l, same)
      | inr above ↦ let l : entry < get_or numbers i 0 = parts.2 i above within in omega (arith, l, same)
    ]

pub named_lost : (f : Flight) (numbers : List ℕ) (entry place : ℕ) → IsStrictlyIncreasing numbers
    → IsBinarySearchResult (λ y. nat_cmp y entry) numbers (Err place) → EntryGives numbers f entry None
named_lost f numbers entry place rising lost = gives_absent f numbers entry (search_lost numbers entry place rising lost)

module _ (f : Flight) (numbers : List ℕ) (entry place number : ℕ) (next : number ≡ suc place) (rising : IsStrictlyIncreasing numbers)
    (each : length numbers ≡ length f.packets) (found : IsBinarySearchResult (λ y. nat_cmp y entry) numbers (Ok place)) where
  found_packet : (p : InFlight) × (packet_of f (suc place) ≡ Some p)
  found_packet =
      let within : place < length numbers = (search_found numbers entry place rising found).0 in
      given_packet f (suc place) (record { first = omega arith; last = omega (arith, within, each) })

  pub named_ended : (end : Ended) → IfSome (packet_of f number) (λ p. Some end ≡ p.ended) → EntryGives numbers f entry None
  named_ended end is =
      let p = found_packet in
      let ended : Some end ≡ p.0.ended =
      subst (λ (o : Option InFlight). IfSome o (λ q. Some end ≡ q.ended)) (ap (packet_of f) next ∙ p.1) is in
      gives_ended f numbers entry place p.0 rising each p.1 (sym (search_found numbers entry place rising found).1)
      (ap is_some (sym ended))

  pub named_going : IfSome (packet_of f number) (λ p. None ≡ p.ended) → IfSome (packet_of f number) (IsInFlight f.net)
      → GivesTo numbers f entry number
  named_going is in_flight =
      let p = found_packet in
      let there : packet_of f number ≡ Some p.0 = ap (packet_of f) next ∙ p.1 in
      let going : None ≡ p.0.ended = subst (λ (o : Option InFlight). IfSome o (λ q. None ≡ q.ended)) there is in
      let fits : IsInFlight f.net p.0 = subst (λ (o : Option InFlight). IfSome o (IsInFlight f.net)) there in_flight in
      subst (GivesTo numbers f entry) (sym next)
      (gives_to f numbers entry place p.0 rising each p.1 (sym (search_found numbers entry place rising found).1) (sym going) fits.counted)

-- after the last entry

module _ (f : Flight) (old new : Progress) (of : IsOf f new) (behind : old.schedule ≡ []) (numbers : new.numbers ≡ old.numbers) where
  due_behind : (at : Progress) (g : Flight) → at.schedule ≡ [] → due at g ≡ one_by_one (comings_of at.numbers g)
  due_behind at g none = ap (λ (schedule : List ℕ). scheduled schedule (comings_of at.numbers g)) none

  -- all have ended
  module _ (all : length f.packets ≤ new.passed) where
    ended_each : (number : ℕ) (p : InFlight) → packet_of f number ≡ Some p → IsSome p.ended
    ended_each zero p there = cc
    ended_each (suc place) p there =
        of.passed (suc place) p
        (let within : place < length f.packets = slice_get_within f.packets place p there in omega (arith, all, within)) there

    pub no_turn : IsNoTurn old f new
    no_turn = record {
      none = due_behind old f behind
          ∙ out_none f.net old.numbers f.packets (λ i q there. rest_over f.net q (ended_each (suc i) q there));
      ended = ended_each;
      numbers = numbers;
      later = of;
    }

  -- the first one that has not
  module _ (p : InFlight) (there : packet_of f (suc new.passed) ≡ Some p) (going : p.ended ≡ None) (counted : IsCounted p)
      (left : new.schedule ≡ []) where
    due_first : due old f ≡ next_of (frame_of old.numbers (suc new.passed)) f.net p ∷ due new (turned (suc new.passed) f)
    due_first =
        due_behind old f behind
        ∙ (out_at f.net p (staged f.net p) (stage_in f.net p) (rest_going f.net p going (counted.left going))
        old.numbers f.packets new.passed (ap length (sym numbers) ∙ of.each) there
        (λ i r before is. rest_over f.net r (of.passed (suc i) r before is))
        ∙ ap (λ ts. next_of (frame_of old.numbers (suc new.passed)) f.net p ∷ ts)
        (ap one_by_one
        (ap (comings_of old.numbers) (sym (turned_going (suc new.passed) f p there going))
        ∙ ap (λ ns. comings_of ns (turned (suc new.passed) f)) (sym numbers))
        ∙ sym (due_behind new (turned (suc new.passed) f) left)))

    going_turn : IsTurnOf old f (suc new.passed) new
    going_turn = record {
      given = record { first = omega arith; last = slice_get_within f.packets new.passed p there };
      going = subst (λ (o : Option InFlight). IfSome o (λ q. q.ended ≡ None)) (sym there) going;
      first = subst (λ (o : Option InFlight). IfSome o (λ q. due old f
          ≡ next_of (frame_of old.numbers (suc new.passed)) f.net q ∷ due new (turned (suc new.passed) f))) (sym there) due_first;
      numbers = numbers;
      later = of_turned f new (suc new.passed) p of there going;
    }

  pub going_next : new.schedule ≡ [] → (number : ℕ) → number ≡ suc new.passed → new.passed < length f.packets
      → IfSome (packet_of f number) (λ p. None ≡ p.ended) → IfSome (packet_of f number) (IsInFlight f.net) → IsTurnOf old f number new
  going_next left number next within is in_flight =
      let p = given_packet f (suc new.passed) (record { first = omega arith; last = omega (arith, within) }) in
      let there : packet_of f number ≡ Some p.0 = ap (packet_of f) next ∙ p.1 in
      let going : None ≡ p.0.ended = subst (λ (o : Option InFlight). IfSome o (λ q. None ≡ q.ended)) there is in
      let fits : IsInFlight f.net p.0 = subst (λ (o : Option InFlight). IfSome o (IsInFlight f.net)) there in_flight in
      subst (λ (m : ℕ). IsTurnOf old f m new) (sym next) (going_turn p.0 p.1 (sym going) fits.counted left)

-- entries that were passed over

pub split_first : (xs : List ℕ) → 1 ≤ length xs → xs ≡ get_or xs 0 0 ∷ take (length xs - 1) (drop 1 xs)
split_first [] some = absurd (omega (arith, some))
split_first (x ∷ xs) some = ap (λ (ys : List ℕ). x ∷ ys) (sym (take_all (length (x ∷ xs) - 1) xs (omega arith)))

module _ (old now : Progress) (f : Flight) (entry : ℕ) (left : List ℕ) (l : IsLeft old f now) (is : now.schedule ≡ entry ∷ left) where
  abbrev next_at : Progress
  next_at = progress left now.numbers now.passed

  due_now : due old f ≡ scheduled (entry ∷ left) (comings_of now.numbers f)
  due_now = sym l.due ∙ ap (λ (schedule : List ℕ). scheduled schedule (comings_of now.numbers f)) is

  of_next : IsOf f next_at
  of_next = record { each = l.later.each; passed = l.later.passed }

  -- one gives a packet its next stage
  module _ (number : ℕ) (gives : GivesTo now.numbers f entry number) where
    turn_of : (p : InFlight) → packet_of f number ≡ Some p → IsTurnOf old f number next_at
    turn_of p there =
        let going : p.ended ≡ None =
        subst (λ (o : Option InFlight). IfSome o (λ q. q.ended ≡ None)) there gives.going in
        let first : scheduled (entry ∷ left) (comings_of now.numbers f)
        ≡ next_of (frame_of now.numbers number) f.net p ∷ scheduled left (comings_of now.numbers (turned number f)) =
        subst (λ (o : Option InFlight). IfSome o (λ q. scheduled (entry ∷ left) (comings_of now.numbers f)
        ≡ next_of (frame_of now.numbers number) f.net q ∷ scheduled left (comings_of now.numbers (turned number f))))
        there (gives.first left) in
        record {
          given = gives.given;
          going = gives.going;
          first = subst (λ (o : Option InFlight). IfSome o (λ q. due old f
              ≡ next_of (frame_of old.numbers number) f.net q ∷ due next_at (turned number f)))
              (sym there)
              (due_now ∙ (first
              ∙ ap (λ (ns : List ℕ). next_of (frame_of ns number) f.net p ∷ due next_at (turned number f)) l.numbers));
          numbers = l.numbers;
          later = of_turned f next_at number p of_next there going;
        }

    pub left_turn : IsTurnOf old f number next_at
    left_turn = let p = given_packet f number gives.given in turn_of p.0 p.1

-- whether numbers rise
pub rising_told : (xs : List ℕ) (r : Bool) → IsAllAdjacentAnswer (λ x y b. b ≡ nat_lt x y) xs r → Decides r (IsStrictlyIncreasing xs)
rising_told xs true told = (
  λ is k within. ltb-true (get_or xs k 0) (get_or xs (k + 1) 0) (sym (told k 0 within)),
  λ rising. refl,
)
rising_told xs false told = (
  λ is. absurd (false≢true is),
  λ rising. let falls : get_or xs (told.0 + 1) 0 ≤ get_or xs told.0 0 =
      ltb-false (get_or xs told.0 0) (get_or xs (told.0 + 1) 0) (sym (told.2 0)) in
      absurd (let rises : get_or xs told.0 0 < get_or xs (told.0 + 1) 0 = rising told.0 told.1 in omega (arith, falls, rises)),
)

-- a number above all that rise rises after them
pub rising_push : (xs : List ℕ) (x : ℕ) → IsStrictlyIncreasing xs → ((k : ℕ) → k < length xs → get_or xs k 0 < x)
    → IsStrictlyIncreasing (xs ++ x ∷ [])
rising_push xs x rising above k within =
    let n : length (xs ++ x ∷ []) ≡ length xs + 1 = length-append xs (x ∷ []) in
    let first : get_or (xs ++ x ∷ []) k 0 ≡ get_or xs k 0 = get_or_append_left xs (x ∷ []) 0 k (omega (arith, n, within)) in
    elim (cases_lt (k + 1) (length xs)) [
      | inl inside ↦
          let next : get_or (xs ++ x ∷ []) (k + 1) 0 ≡ get_or xs (k + 1) 0 = get_or_append_left xs (x ∷ []) 0 (k + 1) inside in
          let rises : get_or xs k 0 < get_or xs (k + 1) 0 = rising k inside in
          omega (arith, first, next, rises)
      | inr behind ↦
          let last : k + 1 ≡ length xs = omega (arith, n, within, behind) in
          let next : get_or (xs ++ x ∷ []) (k + 1) 0 ≡ x = get_or_push xs x 0 (k + 1) (sym last) in
          let rises : get_or xs k 0 < x = above k (omega (arith, last)) in
          omega (arith, first, next, rises)
    ]
