-- What the code keeps of a transition: its first packets were passed, since they have ended.
use Rattle.std.proofs.Common.{◌≡◌, ◌⊎◌, inl, inr, ℕ, zero, suc, ◌+◌, ◌^◌, ◌<◌, ◌≤◌, List, [], ◌∷◌, ◌++◌, length, Bool, true, false, if◌then◌else◌, Option, Some, None, IfSome, Result, Ok, Err, sym, ap, ◌∙◌, arith, subst, length-append}
use Rattle.base.specs.declared.no_memory.NoMemory.{NoMemory}
use Rattle.icmp6_errors.specs.Answer.{error_bytes}
use Rattle.net_model.specs.Network.{Network}
use Rattle.walk_rules.specs.Walk.{Stage}
use Rattle.packet_walk.specs.declared.event.Event.{Event}
use Rattle.packet_walk.specs.Flight.{InFlight, Packets, Flight, packet_in, stage_in, staged, turned, with_packet, within}
use Rattle.packet_walk.specs.FlightTerms.{IsNumber, Turns, event_of}
use Rattle.packet_walk.proofs.PublicLaws.{given_packet, packet_within, turned_going}
use Rattle.net_model.specs.declared.net.EntryId.{EntryId}
use Rattle.update_flight.specs.declared.table_edit.Edit.{Edit}
use Rattle.update_flight.specs.declared.table_edit.Busy.{Busy}
use Rattle.update_flight.specs.Transition.{Transition, answer_of, done_after, edited, entered, first_early, is_before_switch, packets_of, starting, steps, turned_in}
use Rattle.update_flight.specs.TransitionTerms.{HaveEnded, IsPassed}
use Rattle.update_flight.specs.MomentTables.{HasRoute}
use Rattle.update_flight.specs.MomentTablesTerms.{AreAlike, KeepsOwn}
use Rattle.update_flight.proofs.PassingEditLemmas.{length_edits}
use Rattle.update_flight.proofs.OwnStages.{all_stage, all_staged, kept_alike, own_stage, own_staged}
use Rattle.update_flight.proofs.PassingFirsts.{first_early_law, none_early}
use Rattle.update_flight.proofs.PassingKept.{ended_behind, kept_edit, kept_enter, kept_start, kept_turn, still_ended, turn_length}

none_before : (packets : List InFlight) → HaveEnded 0 packets
none_before packets zero p few there = cc
none_before packets (suc before) p few there = absurd (omega (arith, few))

pub passed_start : (added removed : List EntryId) → length added + length removed + 1 < 2 ^ 32 → IsPassed 0 (starting added removed)
passed_start added removed few =
    let e = length_edits added removed in
    record {
      is = kept_start added removed;
      few = omega (arith, few, e);
      numbers = omega arith;
      most = omega arith;
      ended = none_before [];
    }

module _ (passed : ℕ) (t : Transition) (h : IsPassed passed t) where
  passed_turn : (net : Network) (number : ℕ) → IsPassed passed (turned_in net number t)
  passed_turn net number =
      let e = turn_length (within net t.packets) number in
      let numbers = h.numbers in
      record {
        is = kept_turn net number t h.is;
        few = h.few;
        numbers = omega (arith, e, numbers);
        most = h.most;
        ended = still_ended (within net t.packets) number passed h.ended;
      }

  pub passed_edit : IsPassed passed (edited t)
  passed_edit = record { is = kept_edit t h.is; few = h.few; numbers = h.numbers; most = h.most; ended = h.ended }

  entered_more : (old new : InFlight) → t.early ≤ (entered t old new).early
  entered_more old new = more_by (is_before_switch t) where
    more_by : (early : Bool) → t.early ≤ (if early then suc t.early else t.early)
    more_by true = omega arith
    more_by false = omega arith

  pub passed_enter : (old new : InFlight) → length t.packets.packets + 1 < 2 ^ 32 → IsPassed passed (entered t old new)
  passed_enter old new room =
      let few = h.most in
      let within = h.is.early in
      let more = entered_more old new in
      let q : InFlight = if is_before_switch t then old else new in
      let e : length (t.packets.packets ++ q ∷ []) ≡ length t.packets.packets + 1 = length-append t.packets.packets (q ∷ []) in
      record {
        is = kept_enter t old new h.is;
        few = h.few;
        numbers = omega (arith, e, room);
        most = omega (arith, few, more);
        ended = ended_behind t old new h.is q passed (omega (arith, few, within)) h.ended;
      }

-- a turn leaves the packets as they are after it, or as they were

after_by : (net : Network) (number : ℕ) (old new : Packets) (p : InFlight) → packet_in old.packets number ≡ Some p
    → (result : Result (Option Event) NoMemory) → Turns number (within net old) p result (within net new)
    → (new ≡ packets_of (turned number (within net old))) ⊎ (new ≡ old)
after_by net number old new p there (Ok None) turns = inr (ap packets_of turns.1)
after_by net number old new p there (Ok (Some event)) turns =
    inl (ap packets_of (turns.2 ∙ sym (turned_going number (within net old) p there turns.0)))
after_by net number old new p there (Err why) turns = inr (ap packets_of turns.1)

pub after_turn : (net : Network) (number : ℕ) (old new : Packets) (result : Result (Option Event) NoMemory) → IsNumber old.packets number
    → IfSome (packet_in old.packets number) (λ p. Turns number (within net old) p result (within net new))
    → (new ≡ packets_of (turned number (within net old))) ⊎ (new ≡ old)
after_turn net number old new result given turns =
    let there = given_packet (within net old) number given in
    let at : Turns number (within net old) there.0 result (within net new) =
    subst (λ (o : Option InFlight). IfSome o (λ p. Turns number (within net old) p result (within net new))) there.1 turns in
    after_by net number old new there.0 there.1 result at

pub passed_after : (net : Network) (number passed : ℕ) (t : Transition) (new : Packets) (result : Result (Option Event) NoMemory)
    → IsPassed passed t → IsNumber t.packets.packets number
    → IfSome (packet_in t.packets.packets number) (λ p. Turns number (within net t.packets) p result (within net new))
    → IsPassed passed (record t { packets = new })
passed_after net number passed t new result h given turns = elim (after_turn net number t.packets new result given turns) [
  | inl is ↦ subst (λ (all : Packets). IsPassed passed (record t { packets = all })) (sym is) (passed_turn passed t h net number)
  | inr same ↦ subst (λ (all : Packets). IsPassed passed (record t { packets = all })) (sym same) h
]

-- the first early packet in flight, where so many were passed

pub passed_first : (passed number : ℕ) (t : Transition) → IsPassed passed t → passed < t.early → number ≡ passed + 1
    → IfSome (packet_in t.packets.packets number) (λ p. None ≡ p.ended) → Some number ≡ first_early t
passed_first passed number t h more is going =
    let few = h.is.early in
    let e : number ≡ suc passed = omega (arith, is) in
    let there = packet_within t.packets.packets (suc passed) (omega arith) (omega (arith, more, few)) in
    let goes : None ≡ there.0.ended =
    subst (λ (o : Option InFlight). IfSome o (λ p. None ≡ p.ended)) (ap (packet_in t.packets.packets) e ∙ there.1) going in
    ap (λ (n : ℕ). Some n) e ∙ sym (first_early_law t.early passed t.packets.packets there.0 more h.ended there.1 (sym goes))

pub passed_none : (passed : ℕ) (t : Transition) → IsPassed passed t → t.early ≤ passed → None ≡ first_early t
passed_none passed t h all =
    sym (none_early t.early t.packets.packets (λ number p few there. h.ended number p (omega (arith, few, all)) there))

-- a turn by tables in which a packet's stage is the same as in others is a turn by those

pub turn_same : (own now : Network) (number : ℕ) (old new : Packets) (p : InFlight) (result : Result (Option Event) NoMemory)
    → (p.ended ≡ None → stage_in now p ≡ stage_in own p) → (p.ended ≡ None → staged now p ≡ staged own p)
    → Turns number (within now old) p result (within now new) → Turns number (within own old) p result (within own new)
turn_same own now number old new p (Ok None) stage after turns = (turns.0, ap (λ (f : Flight). within own (packets_of f)) turns.1)
turn_same own now number old new p (Ok (Some event)) stage after turns = (
  turns.0,
  turns.1 ∙ ap (event_of number) (stage turns.0),
  ap (λ (f : Flight). within own (packets_of f)) turns.2
      ∙ (ap (λ (s : Stage). record {
        net = own;
        error = error_bytes s.gave.error;
        packets = with_packet old.packets number (staged now p);
      }) (stage turns.0)
      ∙ ap (λ (q : InFlight). record {
        net = own;
        error = error_bytes (stage_in own p).gave.error;
        packets = with_packet old.packets number q;
      }) (after turns.0)),
)
turn_same own now number old new p (Err why) stage after turns =
    (turns.0, ap (λ (f : Flight). within own (packets_of f)) turns.1, turns.2)

-- so is a turn by tables that keep the packet's own matches, where its own stage has a route

module _ (own now : Network) (keeps : KeepsOwn own now) (number : ℕ) (old new : Packets) where
  turn_own : (p : InFlight) (result : Result (Option Event) NoMemory) → HasRoute (stage_in own p)
      → Turns number (within now old) p result (within now new) → Turns number (within own old) p result (within own new)
  turn_own p result route turns =
      turn_same own now number old new p result (λ going. own_stage own now keeps p route) (λ going. own_staged own now keeps p route) turns

  own_by : (o : Option InFlight) (result : Result (Option Event) NoMemory)
      → IfSome o (λ p. Turns number (within now old) p result (within now new))
      → IfSome o (λ p. HasRoute (stage_in own p) → Turns number (within own old) p result (within own new))
  own_by None result turns = tt
  own_by (Some p) result turns = λ route. turn_own p result route turns

  pub own_turn : (result : Result (Option Event) NoMemory)
      → IfSome (packet_in old.packets number) (λ p. Turns number (within now old) p result (within now new))
      → IfSome (packet_in old.packets number) (λ p. HasRoute (stage_in own p) → Turns number (within own old) p result (within own new))
  own_turn result turns = own_by (packet_in old.packets number) result turns

-- and a turn by tables that look up alike

pub alike_turn : (own now : Network) (number : ℕ) (old new : Packets) (result : Result (Option Event) NoMemory) → AreAlike own now
    → IfSome (packet_in old.packets number) (λ p. Turns number (within now old) p result (within now new))
    → IfSome (packet_in old.packets number) (λ p. Turns number (within own old) p result (within own new))
alike_turn own now number old new result alike turns = alike_by (packet_in old.packets number) turns where
  alike_by : (o : Option InFlight) → IfSome o (λ p. Turns number (within now old) p result (within now new))
      → IfSome o (λ p. Turns number (within own old) p result (within own new))
  alike_by None turns = tt
  alike_by (Some p) turns =
      turn_same own now number old new p result (λ going. all_stage own now (kept_alike own now alike) alike.finds p)
      (λ going. all_staged own now (kept_alike own now alike) alike.finds p) turns

-- an edit that was answered, by its answer

edited_ok : (t : Transition) (edit : Edit) → Ok edit ≡ answer_of t → record t { done = t.done + steps edit } ≡ edited t
edited_ok t edit is = ap (λ (answer : Result Edit Busy). record t { done = done_after t.done answer }) is

pub edit_passed : (passed : ℕ) (t : Transition) (edit : Edit) → IsPassed passed t → Ok edit ≡ answer_of t
    → IsPassed passed (record t { done = t.done + steps edit })
edit_passed passed t edit h is = subst (IsPassed passed) (sym (edited_ok t edit is)) (passed_edit passed t h)

pub next_fits : (passed : ℕ) (t : Transition) → IsPassed passed t → passed < t.early → passed + 1 < 2 ^ 32
next_fits passed t h more =
    let few = h.is.early in
    let numbers = h.numbers in
    omega (arith, more, few, numbers)
