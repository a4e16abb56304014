-- A packet that enters a transition, before the switch and after it.
use Rattle.std.proofs.Common.{◌≡◌, ℕ, suc, ◌+◌, ◌^◌, ◌<◌, ◌≤◌, Bool, if◌then◌else◌, [], ◌∷◌, ◌++◌, length, Result, Ok, Err, sym, ap, ◌∙◌, arith, subst}
use Rattle.std.proofs.lemmas.Bool.{le-leb, lt-leb}
use Rattle.base.specs.declared.no_memory.NoMemory.{NoMemory}
use Rattle.net_model.specs.Network.{Network}
use Rattle.packet_walk.specs.Flight.{InFlight, Packets, within}
use Rattle.packet_walk.specs.FlightTerms.{Enters}
use Rattle.update_flight.specs.Transition.{Transition, entered, packets_of}
use Rattle.update_flight.specs.TransitionTerms.{EntersAs, IsPassed}
use Rattle.update_flight.proofs.PassingPassed.{passed_enter}

-- some network
abbrev nowhere : Network
nowhere = record { blocks = []; nodes = []; links = []; routes = []; policies = []; titles = []; sids = []; hidden = [] }

abbrev EntersAll : Packets → InFlight → Result ℕ NoMemory → Packets → Type 0
EntersAll old p result new = (net : Network) → Enters (within net old) p result (within net new)

put_in : (old new : Packets) (p : InFlight) (number : ℕ) → EntersAll old p (Ok number) new
    → new ≡ record old { packets = old.packets ++ p ∷ [] }
put_in old new p number enters = ap packets_of (enters nowhere).1

kept_out : (old new : Packets) (p : InFlight) (why : NoMemory) → EntersAll old p (Err why) new → new ≡ old
kept_out old new p why enters = ap packets_of (enters nowhere)

module _ (passed : ℕ) (t : Transition) (h : IsPassed passed t) (old new : InFlight) (now : Packets)
    (room : length t.packets.packets + 1 < 2 ^ 32) where
  abbrev entry : Bool → Transition
  entry early = record t {
    early = if early then suc t.early else t.early;
    packets = record t.packets { packets = t.packets.packets ++ (if early then old else new) ∷ [] };
  }

  -- after the switch

  late_in : length t.added < t.done → (result : Result ℕ NoMemory) → EntersAll t.packets new result now
      → EntersAs t old new result (record t { packets = now })
  late_in behind (Ok number) enters = (
    (enters nowhere).0,
    ap (λ (all : Packets). record t { packets = all }) (put_in t.packets now new number enters)
        ∙ ap entry (sym (lt-leb t.done (length t.added) behind)),
  )
  late_in behind (Err why) enters = ap (λ (all : Packets). record t { packets = all }) (kept_out t.packets now new why enters)

  late_by : (result : Result ℕ NoMemory) → EntersAs t old new result (record t { packets = now })
      → IsPassed passed (record t { packets = now })
  late_by (Ok number) enters = subst (IsPassed passed) (sym enters.1) (passed_enter passed t h old new room)
  late_by (Err why) enters = subst (IsPassed passed) (sym enters) h

  pub late_enters : length t.added < t.done → (result : Result ℕ NoMemory) → EntersAll t.packets new result now
      → EntersAs t old new result (record t { packets = now }) × IsPassed passed (record t { packets = now })
  late_enters behind result enters =
      let is = late_in behind result enters in (is, late_by result is)

  -- before it

  pub early_enters : t.done ≤ length t.added → (number : ℕ) → EntersAll t.packets old (Ok number) now
      → EntersAs t old new (Ok number) (record t { early = number; packets = now })
      × IsPassed passed (record t { early = number; packets = now })
  early_enters before number enters =
      let each = h.is.before before in
      let at = (enters nowhere).0 in
      let e : number ≡ suc t.early = omega (arith, each, at) in
      let put : now ≡ record t.packets { packets = t.packets.packets ++ old ∷ [] } = put_in t.packets now old number enters in
      let is : record t { early = number; packets = now } ≡ entered t old new =
      ap (λ (early : ℕ). record t { early = early; packets = now }) e
      ∙ (ap (λ (all : Packets). record t { early = suc t.early; packets = all }) put
      ∙ ap entry (sym (le-leb t.done (length t.added) before))) in
      (((enters nowhere).0, is), subst (IsPassed passed) (sym is) (passed_enter passed t h old new room))

  pub early_kept : (why : NoMemory) → EntersAll t.packets old (Err why) now
      → (record t { packets = now } ≡ t) × IsPassed passed (record t { packets = now })
  early_kept why enters =
      let is : record t { packets = now } ≡ t =
      ap (λ (all : Packets). record t { packets = all }) (kept_out t.packets now old why enters) in
      (is, subst (IsPassed passed) (sym is) h)
