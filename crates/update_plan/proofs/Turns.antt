-- Turns of packets by the tables of a moment.
use Rattle.std.proofs.Common.{◌≡◌, ℕ, zero, suc, Bool, true, false, if◌then◌else◌, List, [], ◌∷◌, ◌++◌, Option, Some, None, IfSome, Result, Ok, Err, refl, sym, subst}
use Rattle.base.specs.declared.no_memory.NoMemory.{NoMemory}
use Rattle.net_model.specs.Network.{Network}
use Rattle.walk_rules.specs.Relation.{IsPlace}
use Rattle.packet_walk.specs.declared.event.Event.{Event}
use Rattle.packet_walk.specs.Flight.{InFlight, Packets, packet_in, stage_in, within}
use Rattle.packet_walk.specs.FlightTerms.{ArePlaced, Turns}
use Rattle.update_flight.specs.Interleaving.{PassOver, own_of}
use Rattle.update_flight.specs.MomentTables.{HasRoute}
use Rattle.update_flight.specs.MomentTablesTerms.{AreAlike}
use Rattle.update_flight.specs.Transition.{Transition, is_before_switch}
use Rattle.update_flight.specs.TransitionTerms.{EntersAs, IsTransition}
use Rattle.update_flight.proofs.PublicLaws.{own_stage, own_staged, alike_turn, turn_same, own_kept}
use Rattle.update_plan.specs.UpdateState.{tables_after}
use Rattle.update_plan.specs.UpdateStateTerms.{IsUpdate, whole}
use Rattle.update_plan.proofs.UpdateBetween.{alike_shown}

-- an update's network looks up as its tables do
pub alike_now : (net : Network) (t : Transition) → IsUpdate net t → AreAlike (tables_after (whole net) t.added t.removed t.done) net
alike_now net t h = alike_shown (tables_after (whole net) t.added t.removed t.done) net refl h.shows

pub turn_now : (net : Network) (t : Transition) → IsUpdate net t → (number : ℕ) (new : Packets) (result : Result (Option Event) NoMemory)
    → IfSome (packet_in t.packets.packets number) (λ p. Turns number (within net t.packets) p result (within net new))
    → IfSome (packet_in t.packets.packets number) (λ p. Turns number
    (within (tables_after (whole net) t.added t.removed t.done) t.packets) p result
    (within (tables_after (whole net) t.added t.removed t.done) new))
turn_now net t h number new result turns =
    alike_turn (tables_after (whole net) t.added t.removed t.done) net number t.packets new result (alike_now net t h) turns

-- a turn by tables that pass from one description to another is a turn by the packet's own

module _ (tables : ℕ → Network) (t : Transition) (pass : PassOver tables t.added t.removed) (is : IsTransition t) (number : ℕ)
    (new : Packets) (result : Result (Option Event) NoMemory) where
  abbrev own : Network
  own = own_of tables t number

  own_by : (o : Option InFlight) → packet_in t.packets.packets number ≡ o
      → IfSome o (λ p. Turns number (within (tables t.done) t.packets) p result (within (tables t.done) new))
      → IfSome o (λ p. HasRoute (stage_in own p) → Turns number (within own t.packets) p result (within own new))
  own_by None there turns = tt
  own_by (Some p) there turns = λ route.
      turn_same own (tables t.done) number t.packets new p result
      (λ going. own_stage own (tables t.done) (own_kept tables t pass is number p there going) p route)
      (λ going. own_staged own (tables t.done) (own_kept tables t pass is number p there going) p route) turns

  pub turn_own : IfSome (packet_in t.packets.packets number) (λ p.
      Turns number (within (tables t.done) t.packets) p result (within (tables t.done) new))
      → IfSome (packet_in t.packets.packets number) (λ p.
      HasRoute (stage_in own p) → Turns number (within own t.packets) p result (within own new))
  turn_own turns = own_by (packet_in t.packets.packets number) refl turns

-- what enters stands at a place of the network

placed_behind : (net : Network) (packets : List InFlight) (p : InFlight) → ArePlaced net packets → IsPlace net p.place
    → ArePlaced net (packets ++ p ∷ [])
placed_behind net [] p all here zero q there = let same : p ≡ q = cc in subst (λ (r : InFlight). IsPlace net r.place) same here
placed_behind net [] p all here (suc before) q there = cc
placed_behind net (x ∷ packets) p all here zero q there = all zero q there
placed_behind net (x ∷ packets) p all here (suc before) q there =
    placed_behind net packets p (λ k r at. all (suc k) r at) here before q there

module _ (net : Network) (t : Transition) (h : IsUpdate net t) (old new : InFlight) where
  placed_either : (b : Bool) → IsPlace net old.place → IsPlace net new.place → IsPlace net (if b then old else new).place
  placed_either true one other = one
  placed_either false one other = other

  pub enter_kept : (result : Result ℕ NoMemory) (after : Transition) → IsPlace net old.place → IsPlace net new.place
      → EntersAs t old new result after → IsUpdate net after
  enter_kept (Ok number) after one other enters = subst (IsUpdate net) (sym enters.1) (record {
    shows = h.shows;
    added_there = h.added_there;
    removed_there = h.removed_there;
    placed = placed_behind net t.packets.packets (if is_before_switch t then old else new) h.placed
        (placed_either (is_before_switch t) one other);
    pass = h.pass;
  })
  enter_kept (Err why) after one other enters = subst (IsUpdate net) (sym enters) h
