-- What is so of a transition stays so, whatever comes.
use Rattle.std.proofs.Common.{◌≡◌, ◌≢◌, ◌⊎◌, inl, inr, ℕ, zero, suc, ◌+◌, ◌<◌, ◌≤◌, eqb, Bool, true, false, if◌then◌else◌, List, [], ◌∷◌, ◌++◌, length, Option, Some, None, IsSome, refl, sym, ap, ◌∙◌, arith, length-append}
use Rattle.std.proofs.lemmas.Bool.{leb-true, leb-false}
use Rattle.std.proofs.lemmas.Bool.Decides.{eqb_tells}
use Rattle.net_model.specs.Network.{Network}
use Rattle.walk_rules.specs.declared.place.Ended.{Ended}
use Rattle.packet_walk.specs.Flight.{InFlight, Flight, packet_in, packet_of, turned, turned_by, within}
use Rattle.packet_walk.proofs.PublicLaws.{length_turned, packet_behind, packet_within, turned_ended, turned_other}
use Rattle.net_model.specs.declared.net.EntryId.{EntryId}
use Rattle.update_flight.specs.Transition.{Transition, edited, entered, first_early, is_before_switch, starting, turned_in}
use Rattle.update_flight.specs.TransitionTerms.{IsTransition, HaveEnded}
use Rattle.update_flight.specs.Interleaving.{Move, Enter, Turn, Edit, moved}
use Rattle.update_flight.proofs.PassingEditLemmas.{done_either, done_least, done_most, done_one, removal_done}
use Rattle.update_flight.proofs.PassingFirsts.{early_none, going_or_ended}

-- at the start

pub kept_start : (added removed : List EntryId) → IsTransition (starting added removed)
kept_start added removed =
    record {
      edits = omega arith;
      early = omega arith;
      before = λ few. refl;
      after = λ more. absurd (omega (arith, more));
    }

-- after a turn

module _ (f : Flight) (number : ℕ) where
  abbrev Going : Type 0
  Going = (p : InFlight) × (packet_of f number ≡ Some p) × (p.ended ≡ None)

  turn_of : (p : InFlight) (e : Option Ended) → packet_of f number ≡ Some p → p.ended ≡ e → (turned number f ≡ f) ⊎ Going
  turn_of p None there is = inr (p, there, is)
  turn_of p (Some end) there is = inl (turned_ended number f p end there is)

  turn_by : (o : Option InFlight) → packet_of f number ≡ o → (turned number f ≡ f) ⊎ Going
  turn_by None is = inl (ap (turned_by number f) is)
  turn_by (Some p) is = turn_of p p.ended is refl

  pub turn_length : length (turned number f).packets ≡ length f.packets
  turn_length = elim (turn_by (packet_of f number) refl) [
    | inl same ↦ ap (λ (g : Flight). length g.packets) same
    | inr going ↦ length_turned f number going.0 going.1 going.2
  ]

  still_other : (count : ℕ) → HaveEnded count f.packets → Going → (m : ℕ) (q : InFlight) → m ≤ count
      → packet_in (turned number f).packets m ≡ Some q
      → ((eqb number m ≡ true) × (number ≡ m)) ⊎ ((eqb number m ≡ false) × (number ≢ m)) → IsSome q.ended
  still_other count ended going m q few is (inl same) =
      absurd (going_or_ended going.0.ended going.2 (ended number going.0 (omega (arith, same.1, few)) going.1))
  still_other count ended going m q few is (inr apart) = ended m q few (sym (turned_other number m f apart.1) ∙ is)

  pub still_ended : (count : ℕ) → HaveEnded count f.packets → HaveEnded count (turned number f).packets
  still_ended count ended m q few is = elim (turn_by (packet_of f number) refl) [
    | inl same ↦ ended m q few (sym (ap (λ (g : Flight). packet_in g.packets m) same) ∙ is)
    | inr going ↦ still_other count ended going m q few is (eqb_tells number m)
  ]

pub kept_turn : (net : Network) (number : ℕ) (t : Transition) → IsTransition t → IsTransition (turned_in net number t)
kept_turn net number t h =
    let f : Flight = within net t.packets in
    let e : length (turned number f).packets ≡ length t.packets.packets = turn_length f number in
    let early = h.early in
    record {
      edits = h.edits;
      early = omega (arith, e, early);
      before = λ few. h.before few ∙ sym e;
      after = λ more. still_ended f number t.early (h.after more);
    }

-- after an edit

pub kept_edit : (t : Transition) → IsTransition t → IsTransition (edited t)
kept_edit t h =
    let least = done_least t.added t.removed (first_early t) t.done in
    let one = done_one t.added t.removed (first_early t) t.done in
    record {
      edits = done_most t.added t.removed (first_early t) t.done h.edits;
      early = h.early;
      before = λ few. h.before (omega (arith, few, least));
      after = λ more. elim (done_either t.added t.removed (first_early t) t.done) [
        | inl same ↦ h.after (omega (arith, more, same))
        | inr later ↦ early_none t.early t.packets.packets
            (removal_done t.added t.removed (first_early t) t.done (omega (arith, more, one)) later)
      ];
    }

-- after a packet entered

module _ (t : Transition) (old new : InFlight) (h : IsTransition t) where
  abbrev after_entry : Bool → Transition
  after_entry early = record t {
    early = if early then suc t.early else t.early;
    packets = record t.packets { packets = t.packets.packets ++ (if early then old else new) ∷ [] };
  }

  pub ended_behind : (q : InFlight) (count : ℕ) → count ≤ length t.packets.packets → HaveEnded count t.packets.packets
      → HaveEnded count (t.packets.packets ++ q ∷ [])
  ended_behind q count few ended zero p below is = cc
  ended_behind q count few ended (suc before) p below is =
      let there = packet_within t.packets.packets (suc before) (omega arith) (omega (arith, few, below)) in
      let same : Some there.0 ≡ Some p = sym (packet_behind t.packets.packets (q ∷ []) (suc before) there.0 there.1) ∙ is in
      ended (suc before) p below (there.1 ∙ same)

  entry_kept : (early : Bool) → is_before_switch t ≡ early → IsTransition (after_entry early)
  entry_kept true is =
      let few : t.done ≤ length t.added = leb-true t.done (length t.added) is in
      let each = h.before few in
      let e : length (t.packets.packets ++ old ∷ []) ≡ length t.packets.packets + 1 = length-append t.packets.packets (old ∷ []) in
      record {
        edits = h.edits;
        early = omega (arith, e, each);
        before = λ none. (let s : suc t.early ≡ length (t.packets.packets ++ old ∷ []) = omega (arith, e, each) in s);
        after = λ more. absurd (omega (arith, few, more));
      }
  entry_kept false is =
      let behind : length t.added < t.done = leb-false t.done (length t.added) is in
      let early = h.early in
      let e : length (t.packets.packets ++ new ∷ []) ≡ length t.packets.packets + 1 = length-append t.packets.packets (new ∷ []) in
      record {
        edits = h.edits;
        early = omega (arith, e, early);
        before = λ few. absurd (omega (arith, few, behind));
        after = λ more. ended_behind new t.early h.early (h.after more);
      }

  pub kept_enter : IsTransition (entered t old new)
  kept_enter = entry_kept (is_before_switch t) refl

-- after a move
pub kept_move : (tables : ℕ → Network) (t : Transition) (move : Move) → IsTransition t → IsTransition (moved tables t move)
kept_move tables t (Enter old new) h = kept_enter t old new h
kept_move tables t (Turn number) h = kept_turn (tables t.done) number t h
kept_move tables t Edit h = kept_edit t h
