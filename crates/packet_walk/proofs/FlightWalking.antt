-- A packet on its way to its end: all is as after some turns of it.
use Rattle.std.proofs.Common.{◌≡◌, ℕ, suc, ◌+◌, ◌-◌, ◌<◌, ◌≤◌, length, Option, Some, None, IfSome, IsSome, Ok, refl, sym, ap, ◌∙◌, arith, subst}
use Rattle.std.proofs.lemmas.Bool.{false≢true}
use Rattle.net_model.specs.Network.{Network}
use Rattle.walk_rules.specs.declared.place.Ended.{Ended}
use Rattle.walk_rules.specs.declared.limits.TheConstants.{MAX_STAGES}
use Rattle.packet_walk.specs.declared.event.Event.{Event}
use Rattle.packet_walk.specs.Flight.{InFlight, Flight, packet_of, after_stage, staged, turned}
use Rattle.packet_walk.specs.FlightTerms.{IsCounted, IsGiven, IsInFlight, Turns}
use Rattle.packet_walk.specs.Rest.{end_from, turned_times}
use Rattle.packet_walk.proofs.FlightNumbers.{turned_going, packet_same, length_with, given_packet}
use Rattle.packet_walk.proofs.FlightRests.{staged_counted, end_going}
use Rattle.packet_walk.proofs.Moves.{turned_times_suc}

abbrev pub stages_of : Option InFlight → ℕ
stages_of None = 0
stages_of (Some p) = p.stages

-- a packet that has had so many turns, and ends as one that hadn't
pub record Walking (number : ℕ) (first now : Flight) : Type 0 where
  pub given : IsGiven now number
  pub packet : InFlight
  pub there : packet_of now number ≡ Some packet
  pub counted : IsCounted packet
  pub net : now.net ≡ first.net
  pub times : ℕ
  pub few : times ≤ packet.stages
  pub is : now ≡ turned_times number times first
  pub ends : (p : InFlight) → packet_of first number ≡ Some p → end_from first.net packet ≡ end_from first.net p

some_same : {X : Type 0} (x y : X) → Some x ≡ Some y → x ≡ y
some_same x y e = cc

some≢none : (end : Ended) → Some end ≡ None → ⊥
some≢none end e = cc

some_none : (o : Option Ended) → IsSome o → o ≡ None → ⊥
some_none None some none = absurd (false≢true some)
some_none (Some end) some none = absurd (some≢none end none)

-- at the start it had none
pub walking_from : (number : ℕ) (f : Flight) (p : InFlight) → IsGiven f number → packet_of f number ≡ Some p → IsCounted p
    → Walking number f f
walking_from number f p given there counted =
    record {
      given = given;
      packet = p;
      there = there;
      counted = counted;
      net = refl;
      times = 0;
      few = omega arith;
      is = refl;
      ends = λ q is. ap (end_from f.net) (some_same p q (sym there ∙ is));
    }

pub walking_starts : (number : ℕ) (f : Flight) → IsGiven f number → IfSome (packet_of f number) (IsInFlight f.net) → Walking number f f
walking_starts number f given is =
    let p = given_packet f number given in
    let in_flight : IsInFlight f.net p.0 = subst (λ (o : Option InFlight). IfSome o (IsInFlight f.net)) p.1 is in
    walking_from number f p.0 given p.1 in_flight.counted

module _ (number : ℕ) (first now : Flight) (w : Walking number first now) where
  abbrev p : InFlight
  p = w.packet

  -- it gets one more
  module _ (later : Flight) (going : p.ended ≡ None) (went : later ≡ after_stage number now p) where
    later_there : packet_of later number ≡ Some (staged now.net p)
    later_there = ap (λ (g : Flight). packet_of g number) went ∙ packet_same now.packets number p (staged now.net p) w.there

    later_is : later ≡ turned_times number (suc w.times) first
    later_is = went ∙ (sym (turned_going number now p w.there going)
        ∙ (ap (turned number) w.is ∙ sym (turned_times_suc number w.times first)))

    later_given : IsGiven later number
    later_given =
        let e : length later.packets ≡ length now.packets =
        ap (λ (g : Flight). length g.packets) went ∙ length_with now.packets number (staged now.net p) in
        record { first = w.given.first; last = omega (arith, e, w.given.last) }

    pub walking_on : Walking number first later
    walking_on = record {
      given = later_given;
      packet = staged now.net p;
      there = later_there;
      counted = staged_counted now.net p going w.counted;
      net = ap (λ (g : Flight). g.net) went ∙ w.net;
      times = suc w.times;
      few = omega (arith, w.few);
      is = later_is;
      ends = λ q is. ap (λ (net : Network). end_from first.net (staged net p)) w.net
          ∙ (end_going first.net p going (w.counted.left going) ∙ w.ends q is);
    }

    -- fewer stages are left
    pub walking_less : MAX_STAGES - stages_of (packet_of later number) < MAX_STAGES - stages_of (packet_of now number)
    walking_less =
        let new : stages_of (packet_of later number) ≡ p.stages + 1 = ap stages_of later_there in
        let old : stages_of (packet_of now number) ≡ p.stages = ap stages_of w.there in
        let left : p.stages < MAX_STAGES = w.counted.left going in
        omega (arith, new, old, left)

  -- what a turn of it answers, as it has not ended
  turn_gave : (o : Option Event) (later : Flight) → p.ended ≡ None → Turns number now p (Ok o) later
      → (p.ended ≡ None) × (later ≡ after_stage number now p)
  turn_gave None later going turns = absurd (some_none p.ended turns.0 going)
  turn_gave (Some event) later going turns = (going, turns.2)

  pub walking_going : IfSome (packet_of now number) (λ q. None ≡ q.ended) → p.ended ≡ None
  walking_going is = sym (subst (λ (o : Option InFlight). IfSome o (λ q. None ≡ q.ended)) w.there is)

  pub walking_turn : (o : Option Event) (later : Flight) → IfSome (packet_of now number) (λ q. None ≡ q.ended)
      → IfSome (packet_of now number) (λ q. Turns number now q (Ok o) later)
      → (p.ended ≡ None) × (later ≡ after_stage number now p)
  walking_turn o later is turns =
      turn_gave o later (walking_going is)
      (subst (λ (x : Option InFlight). IfSome x (λ q. Turns number now q (Ok o) later)) w.there turns)
