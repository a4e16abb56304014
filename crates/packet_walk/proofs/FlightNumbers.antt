-- The packets of a flight by their numbers, and what a turn of one leaves.
use Rattle.std.proofs.Common.{◌≡◌, ◌≢◌, ◌⊎◌, inl, inr, ℕ, zero, suc, ◌-◌, ◌<◌, ◌≤◌, List, [], ◌∷◌, ◌++◌, length, slice_get, slice_set, get_or, Option, Some, None, IfSome, Result, Ok, Err, refl, sym, ap, ◌∙◌, arith, le_of_suc-le-suc, subst}
use Rattle.std.proofs.lemmas.Option.{slice_get_within, slice_get_read}
use Rattle.std.proofs.lemmas.List.{set-get_or}
use Rattle.base.specs.declared.no_memory.NoMemory.{NoMemory}
use Rattle.icmp6_errors.specs.Answer.{error_bytes}
use Rattle.walk_rules.specs.declared.place.Outcome.{Outcome}
use Rattle.walk_rules.specs.declared.place.Ended.{Ended}
use Rattle.net_model.specs.Network.{Network}
use Rattle.walk_rules.specs.Relation.{IsPlace}
use Rattle.packet_walk.specs.Flight.{InFlight, Flight, with_room, stage_in, staged, packet_in, packet_of, with_packet, after_stage, turned_where, turned_by, turned}
use Rattle.packet_walk.specs.FlightTerms.{ArePlaced, IsGiven, Reserves, ReservesAs, StagesAs, StagesIn, reserved_where}

get_set_same : {X : Type 0} (xs : List X) (i : ℕ) (y : X) → i < length xs → slice_get (slice_set xs i y) i ≡ Some y
get_set_same [] i y h = absurd (omega (arith, h))
get_set_same (x ∷ xs) zero y h = refl
get_set_same (x ∷ xs) (suc i) y h = get_set_same xs i y (le_of_suc-le-suc h)

get_set_other : {X : Type 0} (xs : List X) (i j : ℕ) (y : X) → i ≢ j → slice_get (slice_set xs i y) j ≡ slice_get xs j
get_set_other [] i j y apart = refl
get_set_other (x ∷ xs) zero zero y apart = absurd (apart refl)
get_set_other (x ∷ xs) zero (suc j) y apart = refl
get_set_other (x ∷ xs) (suc i) zero y apart = refl
get_set_other (x ∷ xs) (suc i) (suc j) y apart = get_set_other xs i j y (λ e. apart (ap suc e))

get_append : {X : Type 0} (xs ys : List X) (i : ℕ) (x : X) → slice_get xs i ≡ Some x → slice_get (xs ++ ys) i ≡ Some x
get_append [] ys i x h = cc
get_append (y ∷ xs) ys zero x h = h
get_append (y ∷ xs) ys (suc i) x h = get_append xs ys i x h

-- the packet of a number, among the packets with another as that of a number

pub packet_same : (packets : List InFlight) (number : ℕ) (p q : InFlight) → packet_in packets number ≡ Some p
    → packet_in (with_packet packets number q) number ≡ Some q
packet_same packets zero p q there = cc
packet_same packets (suc before) p q there = get_set_same packets before q (slice_get_within packets before p there)

pub packet_other : (packets : List InFlight) (number other : ℕ) (q : InFlight) → number ≢ other
    → packet_in (with_packet packets number q) other ≡ packet_in packets other
packet_other packets zero other q apart = refl
packet_other packets (suc before) zero q apart = refl
packet_other packets (suc before) (suc place) q apart = get_set_other packets before place q (λ e. apart (ap suc e))

pub packet_behind : (packets more : List InFlight) (number : ℕ) (p : InFlight) → packet_in packets number ≡ Some p
    → packet_in (packets ++ more) number ≡ Some p
packet_behind packets more zero p there = cc
packet_behind packets more (suc before) p there = get_append packets more before p there

length_set : {X : Type 0} (xs : List X) (i : ℕ) (y : X) → length (slice_set xs i y) ≡ length xs
length_set [] i y = refl
length_set (x ∷ xs) zero y = refl
length_set (x ∷ xs) (suc i) y = ap suc (length_set xs i y)

pub length_with : (packets : List InFlight) (number : ℕ) (q : InFlight) → length (with_packet packets number q) ≡ length packets
length_with packets zero q = refl
length_with packets (suc before) q = length_set packets before q

-- a turn, by whether the packet is there and has ended

pub turned_going : (number : ℕ) (f : Flight) (p : InFlight) → packet_of f number ≡ Some p → p.ended ≡ None
    → turned number f ≡ after_stage number f p
turned_going number f p there going = ap (turned_by number f) there ∙ ap (turned_where number f p) going

pub turned_ended : (number : ℕ) (f : Flight) (p : InFlight) (end : Ended) → packet_of f number ≡ Some p → p.ended ≡ Some end
    → turned number f ≡ f
turned_ended number f p end there is = ap (turned_by number f) there ∙ ap (turned_where number f p) is

net_where : (number : ℕ) (f : Flight) (p : InFlight) (e : Option Ended) → (turned_where number f p e).net ≡ f.net
net_where number f p None = refl
net_where number f p (Some end) = refl

net_by : (number : ℕ) (f : Flight) (o : Option InFlight) → (turned_by number f o).net ≡ f.net
net_by number f None = refl
net_by number f (Some p) = net_where number f p p.ended

-- it changes no network and no other packet

pub turned_net : (number : ℕ) (f : Flight) → (turned number f).net ≡ f.net
turned_net number f = net_by number f (packet_of f number)

other_where : (number other : ℕ) (f : Flight) (p : InFlight) (e : Option Ended) → number ≢ other
    → packet_of (turned_where number f p e) other ≡ packet_of f other
other_where number other f p None apart = packet_other f.packets number other (staged f.net p) apart
other_where number other f p (Some end) apart = refl

other_by : (number other : ℕ) (f : Flight) (o : Option InFlight) → number ≢ other
    → packet_of (turned_by number f o) other ≡ packet_of f other
other_by number other f None apart = refl
other_by number other f (Some p) apart = other_where number other f p p.ended apart

pub turned_other : (number other : ℕ) (f : Flight) → number ≢ other → packet_of (turned number f) other ≡ packet_of f other
turned_other number other f apart = other_by number other f (packet_of f number) apart

-- the packet that had it

pub turned_staged : (number : ℕ) (f : Flight) (p : InFlight) → packet_of f number ≡ Some p → p.ended ≡ None
    → packet_of (turned number f) number ≡ Some (staged f.net p)
turned_staged number f p there going =
    ap (λ (g : Flight). packet_of g number) (turned_going number f p there going)
    ∙ packet_same f.packets number p (staged f.net p) there

-- a number that was given has a packet

get_within : {X : Type 0} (xs : List X) (i : ℕ) → i < length xs → (x : X) × (slice_get xs i ≡ Some x)
get_within [] i h = absurd (omega (arith, h))
get_within (x ∷ xs) zero h = (x, refl)
get_within (x ∷ xs) (suc i) h = get_within xs i (le_of_suc-le-suc h)

pub packet_within : (packets : List InFlight) (number : ℕ) → 1 ≤ number → number ≤ length packets
    → (p : InFlight) × (packet_in packets number ≡ Some p)
packet_within packets zero first last = absurd (omega (arith, first))
packet_within packets (suc before) first last = get_within packets before last

pub given_packet : (f : Flight) (number : ℕ) → IsGiven f number → (p : InFlight) × (packet_of f number ≡ Some p)
given_packet f number given = packet_within f.packets number given.first given.last

-- packets at places of a network, with one in another's place, and with one more

get_of_set : {X : Type 0} (xs : List X) (i j : ℕ) (y x : X) → slice_get (slice_set xs i y) j ≡ Some x
    → (y ≡ x) ⊎ (slice_get xs j ≡ Some x)
get_of_set [] i j y x h = inr h
get_of_set (z ∷ xs) zero zero y x h = inl cc
get_of_set (z ∷ xs) zero (suc j) y x h = inr h
get_of_set (z ∷ xs) (suc i) zero y x h = inr h
get_of_set (z ∷ xs) (suc i) (suc j) y x h = get_of_set xs i j y x h

get_of_push : {X : Type 0} (xs : List X) (j : ℕ) (y x : X) → slice_get (xs ++ y ∷ []) j ≡ Some x
    → (y ≡ x) ⊎ (slice_get xs j ≡ Some x)
get_of_push [] zero y x h = inl cc
get_of_push [] (suc j) y x h = inr h
get_of_push (z ∷ xs) zero y x h = inr h
get_of_push (z ∷ xs) (suc j) y x h = get_of_push xs j y x h

module _ (net : Network) (packets : List InFlight) (q : InFlight) (are : ArePlaced net packets) (at : IsPlace net q.place) where
  at_each : (before : ℕ) (p : InFlight) → (q ≡ p) ⊎ (slice_get packets before ≡ Some p) → IsPlace net p.place
  at_each before p (inl same) = subst (λ (x : InFlight). IsPlace net x.place) same at
  at_each before p (inr there) = are before p there

  pub placed_set : (place : ℕ) → ArePlaced net (slice_set packets place q)
  placed_set place = λ before p there. at_each before p (get_of_set packets place before q p there)

  pub placed_push : ArePlaced net (packets ++ q ∷ [])
  placed_push = λ before p there. at_each before p (get_of_push packets before q p there)

-- the packet that stands in its place in the list

place_packet : (packets : List InFlight) (number : ℕ) (p : InFlight) → 1 ≤ number → number ≤ length packets
    → p ≡ get_or packets (number - 1) p → packet_in packets number ≡ Some p
place_packet packets zero p first last is = absurd (omega (arith, first))
place_packet packets (suc before) p first last is =
    let e : suc before - 1 ≡ before = omega arith in
    slice_get_read packets (length packets) before p refl last (rw e at is)

place_with : (packets : List InFlight) (number : ℕ) (p : InFlight) → 1 ≤ number
    → slice_set packets (number - 1) p ≡ with_packet packets number p
place_with packets zero p first = absurd (omega (arith, first))
place_with packets (suc before) p first =
    let e : suc before - 1 ≡ before = omega arith in ap (λ (i : ℕ). slice_set packets i p) e

place_same : (packets : List InFlight) (i : ℕ) (p : InFlight) → p ≡ get_or packets i p → slice_set packets i p ≡ packets
place_same packets i p is = ap (slice_set packets i) is ∙ set-get_or packets i p

module _ (number : ℕ) (f : Flight) (q : InFlight) (given : IsGiven f number) (is : q ≡ get_or f.packets (number - 1) q) where
  abbrev left : List ℕ → InFlight → Flight
  left slot new = record { net = f.net; error = slot; packets = slice_set f.packets (number - 1) new }

  left_stage : (outcome : Outcome) (new : InFlight) (slot : List ℕ) → StagesAs f.net q outcome new slot
      → StagesIn number f q outcome (left slot new)
  left_stage outcome new slot h = (
    h.0,
    ap (λ (e : List ℕ). left e new) h.2
        ∙ (ap (left (error_bytes (stage_in f.net q).gave.error)) h.1
        ∙ ap (λ (packets : List InFlight).
        record { net = f.net; error = error_bytes (stage_in f.net q).gave.error; packets = packets })
        (place_with f.packets number (staged f.net q) given.first)),
  )

  pub stages_in : (outcome : Outcome) (new : InFlight) (slot : List ℕ) → StagesAs f.net q outcome new slot
      → IfSome (packet_of f number) (λ p. StagesIn number f p outcome (left slot new))
  stages_in outcome new slot h =
      let there : packet_of f number ≡ Some q = place_packet f.packets number q given.first given.last is in
      subst (λ (o : Option InFlight). IfSome o (λ p. StagesIn number f p outcome (left slot new))) (sym there)
      (left_stage outcome new slot h)

  left_reserve : (result : Result (Unit {0}) NoMemory) (new : InFlight) → q.ended ≡ None → ReservesAs q result new
      → Reserves number f q result (left f.error new)
  left_reserve (Ok none) new going h =
      ap (left f.error) h
      ∙ ap (λ (packets : List InFlight). record { net = f.net; error = f.error; packets = packets })
      (place_with f.packets number (with_room q) given.first)
      ∙ sym (ap (reserved_where number f q) going)
  left_reserve (Err why) new going h = (
    going,
    ap (left f.error) h.0
        ∙ ap (λ (packets : List InFlight). record { net = f.net; error = f.error; packets = packets })
        (place_same f.packets (number - 1) q is),
    h.1,
  )

  pub reserves : (result : Result (Unit {0}) NoMemory) (new : InFlight) → IfSome (packet_of f number) (λ p. None ≡ p.ended)
      → ReservesAs q result new → IfSome (packet_of f number) (λ p. Reserves number f p result (left f.error new))
  reserves result new going h =
      let there : packet_of f number ≡ Some q = place_packet f.packets number q given.first given.last is in
      let goes : None ≡ q.ended = subst (λ (o : Option InFlight). IfSome o (λ p. None ≡ p.ended)) there going in
      subst (λ (o : Option InFlight). IfSome o (λ p. Reserves number f p result (left f.error new))) (sym there)
      (left_reserve result new (sym goes) h)
