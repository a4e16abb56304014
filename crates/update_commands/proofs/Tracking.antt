-- What events do to packets of an update: what is so of all of them, and of one that entered.
use Rattle.std.proofs.Common.{◌≡◌, ◌≢◌, ℕ, suc, ◌+◌, nat_eq, Bool, true, false, if◌then◌else◌, List, [], ◌∷◌, ◌++◌, length, length-append, slice_get, slice_set, Option, Some, None, Result, Ok, Err, refl, sym, ap, ◌∙◌, subst, arith}
use Rattle.std.proofs.lemmas.Bool.{eqb-true, eqb-false}
use Rattle.std.proofs.lemmas.Option.{slice_get_within}
use Rattle.net_model.specs.Network.{Network}
use Rattle.walk_rules.specs.declared.place.Ended.{Ended}
use Rattle.walk_rules.specs.Walk.{Stage}
use Rattle.packet_walk.specs.Flight.{InFlight, within}
use Rattle.update_spec.specs.Changes.{added_entries, removed_entries}
use Rattle.update_spec.specs.Joined.{joined_of}
use Rattle.update_flight.specs.declared.table_edit.Busy.{Busy}
use Rattle.update_flight.specs.declared.table_edit.Edit.{Edit}
use Rattle.update_flight.specs.Interleaving.{Enter}
use Rattle.update_flight.specs.Transition.{is_before_switch}
use Rattle.update_flight.specs.TransitionTerms.{IsTransition}
use Rattle.update_flight.proofs.PublicLaws.{kept_edit, kept_move, kept_turn, turn_length}
use Rattle.update_plan.specs.UpdateState.{Update, tables_after, tables_now}
use Rattle.update_plan.specs.UpdateStateTerms.{tables_between}
use Rattle.run_commands.specs.declared.enters.EarlyEnd.{EarlyEnd}
use Rattle.update_driver.specs.declared.seat.Seat.{Seat}
use Rattle.update_driver.specs.declared.seat.Seat.TheVariants as seats
use Rattle.update_driver.specs.Moving.{Happening, Staged, Stayed, Moving, after_entering, after_staying, editing, entered_count, happenings_of_edit, happenings_of_turn, turning}
use Rattle.update_commands.specs.WholeUpdate.{is_of, happened_to}
use Rattle.update_commands.proofs.WholeLists.{get_front, get_seam, set_elsewhere, set_here}

-- ---- happenings of other packets

module _ (number : ℕ) where
  pub told_edit : (numbers : List ℕ) (answer : Result Edit Busy) → happened_to number (happenings_of_edit numbers answer) ≡ []
  told_edit numbers (Ok edit) = refl
  told_edit numbers (Err busy) = refl

  pub other_number : (other : ℕ) → other ≢ number → nat_eq other number ≡ false
  other_number other apart = by (nat_eq other number) refl
    where
      by : (b : Bool) → nat_eq other number ≡ b → b ≡ false
      by true e = absurd (apart (eqb-true other number e))
      by false e = refl

  told_where : (other : ℕ) (u : Update) (p : InFlight) (e : Option Ended) → other ≢ number
      → happened_to number (happenings_of_turn other u (Some (record p { ended = e }))) ≡ []
  told_where other u p None apart = rw (other_number other apart) refl
  told_where other u p (Some end) apart = refl

  pub told_turn : (other : ℕ) (u : Update) (o : Option InFlight) → other ≢ number → happened_to number (happenings_of_turn other u o) ≡ []
  told_turn other u None apart = refl
  told_turn other u (Some p) apart = told_where other u p p.ended apart

  pub same_number : nat_eq number number ≡ true
  same_number = by (nat_eq number number) refl
    where
      by : (b : Bool) → nat_eq number number ≡ b → b ≡ true
      by true e = refl
      by false e = absurd (eqb-false number number e refl)

  -- and one of its own
  pub told_own : (s : Stage) (e : Option Ended) → happened_to number (Staged number s e ∷ []) ≡ Staged number s e ∷ []
  told_own s e = rw same_number refl

  pub told_stayed : (stays : EarlyEnd) → happened_to number (Stayed number stays ∷ []) ≡ Stayed number stays ∷ []
  told_stayed stays = rw same_number refl

  pub told_stay : (other : ℕ) (h : Happening) → is_of number h ≡ false → happened_to number (h ∷ []) ≡ []
  told_stay other h is = rw is refl

-- ---- what is so of packets and tables

module _ (old new : Network) where
  -- the update is one between two descriptions, and the packets have the numbers of their frames
  pub record IsThrough (m : Moving) : Type 0 where
    pub joined : m.update.joined ≡ joined_of old new
    pub added : m.update.transition.added ≡ added_entries old new
    pub removed : m.update.transition.removed ≡ removed_entries old new
    pub is : IsTransition m.update.transition
    pub counts : length m.numbers ≡ length m.update.transition.packets.packets
    pub each : (at packet : ℕ) → slice_get m.seats at ≡ Some (seats.Entered packet)
        → (before : ℕ) × (packet ≡ suc before) × (slice_get m.numbers before ≡ Some (suc at))

  pub tables_are : (m : Moving) → IsThrough m → tables_now m.update ≡ tables_between old new m.update.transition.done
  tables_are m t = λ i. tables_after (t.joined i) (t.added i) (t.removed i) m.update.transition.done

  -- ---- it stays so

  pub through_edited : (m : Moving) → IsThrough m → IsThrough (editing m).after
  through_edited m t = record {
    joined = t.joined;
    added = t.added;
    removed = t.removed;
    is = kept_edit m.update.transition t.is;
    counts = t.counts;
    each = t.each;
  }

  pub through_turned : (number k : ℕ) (m : Moving) → IsThrough m → IsThrough (turning number k m).after
  through_turned number k m t = record {
    joined = t.joined;
    added = t.added;
    removed = t.removed;
    is = kept_turn (tables_now m.update) k m.update.transition t.is;
    counts = t.counts ∙ sym (turn_length (within (tables_now m.update) m.update.transition.packets) k);
    each = t.each;
  }

  pub through_stayed : (i : ℕ) (seat : Seat) (m : Moving) → slice_get m.seats i ≡ Some seat → IsThrough m → IsThrough (after_staying i m)
  through_stayed i seat m there t = record {
    joined = t.joined;
    added = t.added;
    removed = t.removed;
    is = t.is;
    counts = t.counts;
    each = λ at packet found. by at packet found (nat_eq i at) refl;
  }
    where
      by : (at packet : ℕ) → slice_get (slice_set m.seats i seats.Gone) at ≡ Some (seats.Entered packet) → (b : Bool) → nat_eq i at ≡ b
          → (before : ℕ) × (packet ≡ suc before) × (slice_get m.numbers before ≡ Some (suc at))
      by at packet found true e =
          let same : i ≡ at = eqb-true i at e in
          let gone : slice_get (slice_set m.seats i seats.Gone) i ≡ Some seats.Gone =
          set_here m.seats i seats.Gone (slice_get_within m.seats i seat there) in
          let here : slice_get (slice_set m.seats i seats.Gone) i ≡ Some (seats.Entered packet) =
          subst (λ (n : ℕ). slice_get (slice_set m.seats i seats.Gone) n ≡ Some (seats.Entered packet)) (sym same) found in
          absurd (cc)
      by at packet found false e =
          t.each at packet (sym (set_elsewhere m.seats i at seats.Gone (eqb-false i at e)) ∙ found)

  pub through_entered : (i : ℕ) (seat : Seat) (p : InFlight) (m : Moving) → slice_get m.seats i ≡ Some seat → IsThrough m
      → IsThrough (after_entering i p m)
  through_entered i seat p m there t = record {
    joined = t.joined;
    added = t.added;
    removed = t.removed;
    is = kept_move (λ (n : ℕ). m.update.joined) m.update.transition (Enter p p) t.is;
    counts = let a = length-append m.numbers (suc i ∷ []) in
        let b = length-append m.update.transition.packets.packets ((if is_before_switch m.update.transition then p else p) ∷ []) in
        let c = t.counts in
        omega (arith, a, b, c);
    each = λ at packet found. by at packet found (nat_eq i at) refl;
  }
    where
      seat_now : Seat
      seat_now = seats.Entered (entered_count m + 1)

      by : (at packet : ℕ) → slice_get (slice_set m.seats i seat_now) at ≡ Some (seats.Entered packet) → (b : Bool) → nat_eq i at ≡ b
          → (before : ℕ) × (packet ≡ suc before) × (slice_get (m.numbers ++ suc i ∷ []) before ≡ Some (suc at))
      by at packet found true e =
          let same : i ≡ at = eqb-true i at e in
          let mine : slice_get (slice_set m.seats i seat_now) i ≡ Some seat_now =
          set_here m.seats i seat_now (slice_get_within m.seats i seat there) in
          let here : slice_get (slice_set m.seats i seat_now) i ≡ Some (seats.Entered packet) =
          subst (λ (n : ℕ). slice_get (slice_set m.seats i seat_now) n ≡ Some (seats.Entered packet)) (sym same) found in
          let number : entered_count m + 1 ≡ packet = cc in
          let count = t.counts in (
            entered_count m,
            (let s : packet ≡ suc (entered_count m) = omega (arith, number) in s),
            get_seam m.numbers (suc i) (entered_count m) (sym count) ∙ ap (λ (n : ℕ). Some (suc n)) same,
          )
      by at packet found false e =
          let got = t.each at packet (sym (set_elsewhere m.seats i at seat_now (eqb-false i at e)) ∙ found) in
          (got.0, got.1, get_front m.numbers (suc i ∷ []) got.0 (suc at) got.2)
