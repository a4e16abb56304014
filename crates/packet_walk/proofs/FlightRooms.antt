-- Room in front of packets, and a stage after room was made.
use Rattle.std.proofs.Common.{◌≡◌, ℕ, zero, suc, ◌<◌, ◌≤◌, max, List, [], ◌∷◌, length, get_or, slice_set, Option, Some, None, IfSome, IsSome, Result, Ok, Err, refl, sym, ap, ◌∙◌, arith, subst}
use Rattle.std.proofs.lemmas.Option.{slice_get_read}
use Rattle.std.proofs.lemmas.Bool.{false≢true}
use Rattle.base.specs.declared.no_memory.NoMemory.{NoMemory}
use Rattle.icmp6_errors.specs.Answer.{error_bytes}
use Rattle.net_model.specs.Network.{Network}
use Rattle.node_stage.specs.Fronted.{front_after, fronted, most_front}
use Rattle.walk_rules.specs.declared.place.Ended.{Ended}
use Rattle.walk_rules.specs.Relation.{IsPlace}
use Rattle.packet_walk.specs.declared.event.Event.{Event}
use Rattle.packet_walk.specs.Flight.{InFlight, Packets, Flight, advanced, packet_of, stage_in, staged, with_packet, with_room, within}
use Rattle.packet_walk.specs.FlightTerms.{ArePlaced, Enters, IsGiven, Reserves, Turns, reserved_where, room_where}
use Rattle.packet_walk.proofs.FlightNumbers.{given_packet, packet_same, placed_push, length_with}

-- a packet among packets at places of a network stands at one
pub at_place : (net : Network) (packets : List InFlight) (q : InFlight) (place : ℕ) → ArePlaced net packets → place < length packets
    → q ≡ get_or packets place q → IsPlace net q.place
at_place net packets q place are within at = are place q (slice_get_read packets (length packets) place q refl within at)

-- and so do all when one enters at one
pub placed_entered : (net : Network) (old new : Packets) (p : InFlight) (result : Result ℕ NoMemory) → ArePlaced net old.packets
    → IsPlace net p.place → Enters (within net old) p result (within net new) → ArePlaced net new.packets
placed_entered net old new p (Ok number) are at enters =
    subst (λ (f : Flight). ArePlaced net f.packets) (sym enters.1) (placed_push net old.packets p are at)
placed_entered net old new p (Err why) are at enters = subst (λ (f : Flight). ArePlaced net f.packets) (sym enters) are

-- of a packet that has ended

pub room_ended : (o : Option InFlight) (end : Ended) → IfSome o (λ p. Some end ≡ p.ended)
    → IfSome o (λ p. 0 ≡ room_where p.front p.ended)
room_ended None end h = tt
room_ended (Some p) end h = ap (room_where p.front) h

reserves_by : (number : ℕ) (f : Flight) (o : Option InFlight) (end : Ended) → IfSome o (λ p. Some end ≡ p.ended)
    → IfSome o (λ p. f ≡ reserved_where number f p p.ended)
reserves_by number f None end h = tt
reserves_by number f (Some p) end h = ap (reserved_where number f p) h

pub reserves_ended : (number : ℕ) (f : Flight) (end : Ended) → IfSome (packet_of f number) (λ p. Some end ≡ p.ended)
    → IfSome (packet_of f number) (λ p. f ≡ reserved_where number f p p.ended)
reserves_ended number f end h = reserves_by number f (packet_of f number) end h

-- of one in flight

some_is : (p q : InFlight) → Some p ≡ Some q → p ≡ q
some_is p q e = cc

pub room_going : (o : Option InFlight) (q : InFlight) (n : ℕ) → o ≡ Some q → n ≡ q.front → IfSome o (λ p. None ≡ p.ended)
    → IfSome o (λ p. n ≡ room_where p.front p.ended)
room_going None q n there is h = tt
room_going (Some p) q n there is h =
    is ∙ sym (ap (λ (x : InFlight). x.front) (some_is p q there)) ∙ ap (room_where p.front) h

-- where there is room nothing is added

pub staged_room : (net : Network) (p : InFlight) → staged net (with_room p) ≡ staged net p
staged_room net p =
    let e : max most_front (max most_front p.front) ≡ max most_front p.front = omega arith in
    ap (λ (front : ℕ). advanced net (stage_in net p).gave.outcome
    (fronted (stage_in net p).gave.after (front_after net p.place.node (fronted p.content front) (stage_in net p).gave.outcome)) p) e

set_twice : {X : Type 0} (xs : List X) (i : ℕ) (x y : X) → slice_set (slice_set xs i x) i y ≡ slice_set xs i y
set_twice [] i x y = refl
set_twice (z ∷ xs) zero x y = refl
set_twice (z ∷ xs) (suc i) x y = ap (λ zs. z ∷ zs) (set_twice xs i x y)

with_twice : (packets : List InFlight) (number : ℕ) (p q : InFlight)
    → with_packet (with_packet packets number p) number q ≡ with_packet packets number q
with_twice packets zero p q = refl
with_twice packets (suc before) p q = set_twice packets before p q

-- a flight after room was made in front of a packet

abbrev made : ℕ → Flight → InFlight → Flight
made number f p = record { net = f.net; error = f.error; packets = with_packet f.packets number (with_room p) }

none≢some : (end : Ended) → Some end ≡ None → ⊥
none≢some end e = cc

none_some : (e : Option Ended) → e ≡ None → IsSome e → ⊥
none_some None going some = absurd (false≢true some)
none_some (Some end) going some = absurd (none≢some end going)

turns_made : (number : ℕ) (f h : Flight) (p : InFlight) (event : Option Event) → p.ended ≡ None
    → Turns number (made number f p) (with_room p) (Ok event) h → Turns number f p (Ok event) h
turns_made number f h p None going turns = absurd (none_some p.ended going turns.0)
turns_made number f h p (Some event) going turns =
    let left : List InFlight → Flight =
    λ packets. record { net = f.net; error = error_bytes (stage_in f.net p).gave.error; packets = packets } in (
      turns.0,
      turns.1,
      turns.2
          ∙ (ap (λ (q : InFlight). left (with_packet (with_packet f.packets number (with_room p)) number q)) (staged_room f.net p)
          ∙ ap left (with_twice f.packets number (with_room p) (staged f.net p))),
    )

module _ (number : ℕ) (f g : Flight) (given : IsGiven f number) where
  abbrev Made : InFlight → Type 0
  Made p = Reserves number f p (Ok tt) g

  -- a packet of a number that was given has it, and is there afterwards
  made_given : (p : InFlight) (e : Option Ended) → g ≡ reserved_where number f p e → IsGiven g number
  made_given p None is =
      let e : length g.packets ≡ length f.packets =
      ap (λ (x : Flight). length x.packets) is ∙ length_with f.packets number (with_room p) in
      let last = given.last in
      record { first = given.first; last = omega (arith, e, last) }
  made_given p (Some end) is = subst (λ (x : Flight). IsGiven x number) (sym is) given

  pub reserved_given : IfSome (packet_of f number) Made → IsGiven g number
  reserved_given h =
      let there = given_packet f number given in
      made_given there.0 there.0.ended (subst (λ (o : Option InFlight). IfSome o Made) there.1 h)

  made_packet : (p : InFlight) (e : Option Ended) → packet_of f number ≡ Some p → p.ended ≡ e
      → g ≡ reserved_where number f p e → (q : InFlight) × (packet_of g number ≡ Some q) × (q.ended ≡ None → most_front ≤ q.front)
  made_packet p None there ended is = (
    with_room p,
    ap (λ (x : Flight). packet_of x number) is ∙ packet_same f.packets number p (with_room p) there,
    λ going. omega arith,
  )
  made_packet p (Some end) there ended is = (
    p,
    ap (λ (x : Flight). packet_of x number) is ∙ there,
    λ going. absurd (none≢some end (sym ended ∙ going)),
  )

  pub reserved_ready : IfSome (packet_of f number) Made
      → IfSome (packet_of g number) (λ p. p.ended ≡ None → most_front ≤ p.front)
  reserved_ready h =
      let there = given_packet f number given in
      let p : InFlight = there.0 in
      let ready = made_packet p p.ended there.1 refl (subst (λ (o : Option InFlight). IfSome o Made) there.1 h) in
      subst (λ (o : Option InFlight). IfSome o (λ q. q.ended ≡ None → most_front ≤ q.front)) (sym ready.1) ready.2

  -- a turn after room was made is a turn
  module _ (h : Flight) (event : Option Event) where
    made_turn : (p : InFlight) (e : Option Ended) → packet_of f number ≡ Some p → p.ended ≡ e → g ≡ reserved_where number f p e
        → IfSome (packet_of g number) (λ q. Turns number g q (Ok event) h) → Turns number f p (Ok event) h
    made_turn p None there ended is turns =
        let at : packet_of g number ≡ Some (with_room p) =
        ap (λ (x : Flight). packet_of x number) is ∙ packet_same f.packets number p (with_room p) there in
        let turned : Turns number g (with_room p) (Ok event) h =
        subst (λ (o : Option InFlight). IfSome o (λ q. Turns number g q (Ok event) h)) at turns in
        turns_made number f h p event ended
        (subst (λ (x : Flight). Turns number x (with_room p) (Ok event) h) is turned)
    made_turn p (Some end) there ended is turns =
        let at : packet_of g number ≡ Some p = ap (λ (x : Flight). packet_of x number) is ∙ there in
        subst (λ (x : Flight). Turns number x p (Ok event) h) is
        (subst (λ (o : Option InFlight). IfSome o (λ q. Turns number g q (Ok event) h)) at turns)

    pub reserved_turn : IfSome (packet_of f number) Made → IfSome (packet_of g number) (λ q. Turns number g q (Ok event) h)
        → IfSome (packet_of f number) (λ p. Turns number f p (Ok event) h)
    reserved_turn made turns =
        let there = given_packet f number given in
        let p : InFlight = there.0 in
        let turned : Turns number f p (Ok event) h =
        made_turn p p.ended there.1 refl (subst (λ (o : Option InFlight). IfSome o Made) there.1 made) turns in
        subst (λ (o : Option InFlight). IfSome o (λ q. Turns number f q (Ok event) h)) (sym there.1) turned
