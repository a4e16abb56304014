-- After the events and what is asked for behind them nothing is left.
use Rattle.std.proofs.Common.{◌≡◌, ◌⊎◌, inl, inr, ℕ, zero, suc, ◌+◌, ◌<◌, ◌≤◌, Bool, true, if◌then◌else◌, is_some, List, [], ◌∷◌, ◌++◌, length, map, take, slice_get, Option, Some, None, Ok, refl, sym, ap, ◌∙◌, subst, arith}
use Rattle.std.specs.Prelude.{⊤, replicate}
use Rattle.std.specs.List.{flat_map}
use Rattle.std.proofs.lemmas.List.{length-map}
use Rattle.std.proofs.lemmas.Option.{slice_get_past}
use Rattle.pcap_io.specs.declared.frame.Body.{Body}
use Rattle.pcap_io.specs.declared.frame.Frame.{Frame}
use Rattle.net_model.specs.declared.net.EntryId.{EntryId}
use Rattle.walk_rules.specs.declared.limits.TheConstants.{MAX_STAGES}
use Rattle.node_stage.specs.Fronted.{fronted}
use Rattle.packet_walk.specs.Flight.{InFlight, packet_in, within}
use Rattle.packet_walk.specs.FlightTerms.{IsCounted}
use Rattle.packet_walk.proofs.PublicLaws.{entering_counted}
use Rattle.update_flight.specs.declared.table_edit.Edit.{Edit}
use Rattle.update_flight.specs.declared.table_edit.Edit.TheVariants.{Added, Switched, Removed, Finished}
use Rattle.update_flight.specs.Transition.{Transition, answer_of, answer_to, done_after, edit_count, edited, edits, first_going, next_edit, or_finished, steps}
use Rattle.update_plan.specs.UpdateState.{Plan, tables_now}
use Rattle.run_commands.specs.declared.enters.Entrant.{Entrant}
use Rattle.run_commands.specs.Admission.{Admission, EndsEarly, Admitted}
use Rattle.update_driver.specs.declared.seat.Seat.{Seat}
use Rattle.update_driver.specs.declared.seat.Seat.TheVariants as seats
use Rattle.update_driver.specs.Arriving.{seat_of}
use Rattle.update_driver.specs.Events.{edits_left, events_and_rest, numbers_behind, starting, to_their_ends}
use Rattle.update_driver.specs.Going.{ended_in, has_ended}
use Rattle.update_driver.specs.Moving.{Moving, Sides, after_entering, after_staying, after_turn, as_in_flight, coming_by, doing, editing, entered_count, first_member, side_of, stepping}
use Rattle.update_driver.specs.Over.{IsOver, after_all}
use Rattle.update_driver.proofs.EventPackets.{get_same}
use Rattle.update_driver.proofs.EventStarting.{none_entered}
use Rattle.update_driver.proofs.Tracks.{left_most, turned_left}
use Rattle.update_driver.proofs.Seated.{IsTracked, IsEnded, LeftAt, left_first, left_last, tracked_turned, turned_seat, tracked_stayed, stayed_over, tracked_entered, entered_over, within_of, past_of, lt_or, less_or, those}

entering_one : (comes : Entrant) → IsCounted (as_in_flight comes)
entering_one comes = entering_counted (fronted comes.content 0) comes.place first_member (omega arith)

-- an event keeps what is so, and the packets that have ended
record IsKept (count total : ℕ) (old new : Moving) : Type 0 where
  tracked : IsTracked count total new
  over : (i : ℕ) → IsEnded old i → IsEnded new i

module _ (count total : ℕ) (m : Moving) (t : IsTracked count total m) where
  nothing_kept : IsKept count total m m
  nothing_kept = record { tracked = t; over = λ i over. over }

  coming_kept : (at : ℕ) (body : Body) → slice_get m.seats at ≡ Some (seats.ToCome body) → (e : Admission)
      → IsKept count total m (coming_by at m e).after
  coming_kept at body there (EndsEarly stays) =
      record { tracked = tracked_stayed count total m t at body there; over = stayed_over count total m t at body there }
  coming_kept at body there (Admitted comes) =
      let p : InFlight = as_in_flight comes in
      let one = entering_one comes in
      let mid : IsTracked count total (after_entering at p m) = tracked_entered count total m t at body there p one in
      record {
        tracked = tracked_turned count total (after_entering at p m) mid (suc at) (entered_count m + 1);
        over = λ i over. turned_seat count total (after_entering at p m) mid (entered_count m + 1)
            (slice_get (after_entering at p m).seats i) (entered_over count total m t at body there p one i over);
      }

  stepping_kept : (sides : Sides) (at : ℕ) (o : Option Seat) → slice_get m.seats at ≡ o → IsKept count total m (stepping sides at m o).after
  stepping_kept sides at None is = nothing_kept
  stepping_kept sides at (Some (seats.ToCome body)) is = coming_kept at body is (side_of sides m.update body)
  stepping_kept sides at (Some (seats.Entered k)) is = record {
    tracked = tracked_turned count total m t (suc at) k;
    over = λ i over. turned_seat count total m t k (slice_get m.seats i) over;
  }
  stepping_kept sides at (Some seats.Gone) is = nothing_kept

  edited_seat : (o : Option Seat) → has_ended m.update o ≡ true → has_ended (editing m).after.update o ≡ true
  edited_seat None over = refl
  edited_seat (Some (seats.ToCome body)) over = absurd (cc)
  edited_seat (Some (seats.Entered k)) over = over
  edited_seat (Some seats.Gone) over = refl

  doing_kept : (sides : Sides) (event : ℕ) → IsKept count total m (doing sides event m).after
  doing_kept sides zero = record {
    tracked = record { many = t.many; all = t.all; numbered = t.numbered; covered = t.covered; counted = t.counted };
    over = λ i over. edited_seat (slice_get m.seats i) over;
  }
  doing_kept sides (suc at) = stepping_kept sides at (slice_get m.seats at) refl

  -- the packet of a number may have one stage less after an event of the number

  coming_left : (at : ℕ) (body : Body) → slice_get m.seats at ≡ Some (seats.ToCome body) → (n : ℕ) → MAX_STAGES ≤ suc n → (e : Admission)
      → LeftAt n (coming_by at m e).after (slice_get (coming_by at m e).after.seats at)
  coming_left at body there n most (EndsEarly stays) =
      subst (LeftAt n (after_staying at m)) (sym (get_same m.seats at seats.Gone (within_of m.seats at (seats.ToCome body) there))) tt
  coming_left at body there n most (Admitted comes) =
      let p : InFlight = as_in_flight comes in
      let mid : Moving = after_entering at p m in
      let number : ℕ = entered_count m + 1 in
      subst (LeftAt n (after_turn number mid))
      (sym (get_same m.seats at (seats.Entered number) (within_of m.seats at (seats.ToCome body) there)))
      (turned_left (tables_now mid.update) number mid.update.transition.packets n (left_most (suc n) most (packet_in (those mid) number)))

  stepping_left : (sides : Sides) (at n : ℕ) (o : Option Seat) → slice_get m.seats at ≡ o → LeftAt (suc n) m o
      → LeftAt n (stepping sides at m o).after (slice_get (stepping sides at m o).after.seats at)
  stepping_left sides at n None is left = subst (LeftAt n m) (sym is) tt
  stepping_left sides at n (Some (seats.ToCome body)) is left = coming_left at body is n left (side_of sides m.update body)
  stepping_left sides at n (Some (seats.Entered k)) is left =
      subst (LeftAt n (after_turn k m)) (sym is) (turned_left (tables_now m.update) k m.update.transition.packets n left)
  stepping_left sides at n (Some seats.Gone) is left = subst (LeftAt n m) (sym is) tt

-- ---- events

module _ (sides : Sides) where
  after_append : (xs ys : List ℕ) (m : Moving) → after_all sides m (xs ++ ys) ≡ after_all sides (after_all sides m xs) ys
  after_append [] ys m = refl
  after_append (x ∷ xs) ys m = after_append xs ys (doing sides x m).after

  module _ (count total : ℕ) where
    after_kept : (events : List ℕ) (m : Moving) → IsTracked count total m → IsKept count total m (after_all sides m events)
    after_kept [] m t = nothing_kept count total m t
    after_kept (event ∷ events) m t =
        let one = doing_kept count total m t sides event in
        let rest = after_kept events (doing sides event m).after one.tracked in
        record { tracked = rest.tracked; over = λ i over. rest.over i (one.over i over) }

    -- so many events of a number, as there may be stages
    times_left : (at n : ℕ) (m : Moving) → IsTracked count total m → LeftAt n m (slice_get m.seats at)
        → IsEnded (after_all sides m (replicate n (suc at))) at
    times_left at zero m t left = left_last m (slice_get m.seats at) t.counted left
    times_left at (suc n) m t left =
        let one = doing_kept count total m t sides (suc at) in
        times_left at n (doing sides (suc at) m).after one.tracked
        (stepping_left count total m t sides at n (slice_get m.seats at) refl left)

    -- all packets go to their ends
    ends_all : {X : Type 0} → (most : ℕ) → MAX_STAGES ≤ most → (xs : List X) (n : ℕ) (m : Moving) → IsTracked count total m
        → ((i : ℕ) → i < n → IsEnded m i) → (i : ℕ) → i < n + length xs
        → IsEnded (after_all sides m (flat_map (λ number. replicate most number) (numbers_behind n xs))) i
    ends_all most enough [] n m t before i within = before i (omega (arith, within))
    ends_all most enough (x ∷ xs) n m t before i within =
        let first : List ℕ = replicate most (suc n) in
        let rest : List ℕ = flat_map (λ number. replicate most number) (numbers_behind (suc n) xs) in
        let one = after_kept first m t in
        subst (λ (k : Moving). IsEnded k i) (sym (after_append first rest m))
        (ends_all most enough xs (suc n) (after_all sides m first) one.tracked next i (omega (arith, within)))
      where
        next : (j : ℕ) → j < suc n → IsEnded (after_all sides m (replicate most (suc n))) j
        next j less = by (lt_or j n less)
          where
            by : (j < n) ⊎ (n ≡ j) → IsEnded (after_all sides m (replicate most (suc n))) j
            by (inl l) = (after_kept (replicate most (suc n)) m t).over j (before j l)
            by (inr same) = subst (λ (k : ℕ). IsEnded (after_all sides m (replicate most (suc n))) k) same
                (times_left n most m t (left_first most enough m (slice_get m.seats n)))

-- ---- edits

abbrev AllOver : List InFlight → Type 0
AllOver [] = ⊤
AllOver (p ∷ more) = (is_some p.ended ≡ true) × AllOver more

all_over : (ps : List InFlight) → ((i : ℕ) (p : InFlight) → slice_get ps i ≡ Some p → is_some p.ended ≡ true) → AllOver ps
all_over [] each = tt
all_over (p ∷ ps) each = (each 0 p refl, all_over ps (λ i q there. each (suc i) q there))

take_over : (k : ℕ) (ps : List InFlight) → AllOver ps → AllOver (take k ps)
take_over zero [] all = tt
take_over zero (p ∷ ps) all = tt
take_over (suc k) [] all = tt
take_over (suc k) (p ∷ ps) all = (all.0, take_over k ps all.1)

none_going : (n : ℕ) (ps : List InFlight) → AllOver ps → first_going n ps ≡ None
none_going n [] all = refl
none_going n (p ∷ ps) all = ap (λ (c : Bool). if c then first_going (n + 1) ps else Some n) all.0 ∙ none_going (n + 1) ps all.1

answer_none : (e : Edit) → answer_to None e ≡ Ok e
answer_none (Added entry) = refl
answer_none Switched = refl
answer_none (Removed entry) = refl
answer_none Finished = refl

one_removal : (removed : List EntryId) (i : ℕ) (e : Edit) → slice_get (map Removed removed) i ≡ Some e → steps e ≡ 1
one_removal [] i e h = absurd (cc)
one_removal (x ∷ removed) zero e h = let same : Removed x ≡ e = cc in ap steps (sym same)
one_removal (x ∷ removed) (suc i) e h = one_removal removed i e h

one_step : (added removed : List EntryId) (i : ℕ) (e : Edit) → slice_get (edits added removed) i ≡ Some e → steps e ≡ 1
one_step [] removed zero e h = let same : Switched ≡ e = cc in ap steps (sym same)
one_step [] removed (suc i) e h = one_removal removed i e h
one_step (x ∷ added) removed zero e h = let same : Added x ≡ e = cc in ap steps (sym same)
one_step (x ∷ added) removed (suc i) e h = one_step added removed i e h

module _ (t : Transition) (all : AllOver t.packets.packets) where
  answer_is : answer_of t ≡ Ok (next_edit t)
  answer_is = ap (λ (going : Option ℕ). answer_to going (next_edit t))
      (none_going 1 (take t.early t.packets.packets) (take_over t.early t.packets.packets all)) ∙ answer_none (next_edit t)

  edits_one : (n : ℕ) → edit_count t ≤ t.done + suc n → edit_count t ≤ (edited t).done + n
  edits_one n most = by (slice_get (edits t.added t.removed) t.done) refl
    where
      done_is : (edited t).done ≡ t.done + steps (next_edit t)
      done_is = ap (done_after t.done) answer_is

      by : (o : Option Edit) → slice_get (edits t.added t.removed) t.done ≡ o → edit_count t ≤ (edited t).done + n
      by None there = let past = past_of (edits t.added t.removed) t.done there in let d = done_is in omega (arith, past, d)
      by (Some e) there =
          let one : steps (next_edit t) ≡ 1 =
          ap (λ (o : Option Edit). steps (or_finished o)) there ∙ one_step t.added t.removed t.done e there in
          let d = done_is in omega (arith, most, d, one)

edits_all : (sides : Sides) (n : ℕ) (m : Moving) → AllOver (those m) → edit_count m.update.transition ≤ m.update.transition.done + n
    → next_edit (after_all sides m (replicate n 0)).update.transition ≡ Finished
edits_all sides zero m all most = ap or_finished
    (slice_get_past (edits m.update.transition.added m.update.transition.removed) m.update.transition.done (omega (arith, most)))
edits_all sides (suc n) m all most = edits_all sides n (editing m).after all (edits_one m.update.transition all n most)

-- ---- nothing is left

module _ (sides : Sides) (plan : Plan) (frames : List Frame) (events : List ℕ) where
  abbrev start : Moving
  start = starting sides plan frames

  abbrev count : ℕ
  count = length frames

  abbrev total : ℕ
  total = edit_count start.update.transition

  start_tracked : IsTracked count total start
  start_tracked = record {
    many = length-map frames (seat_of sides.old);
    all = refl;
    numbered = λ at k there. absurd (none_entered sides.old frames at k there);
    covered = λ k given. let first = given.first in let last = given.last in absurd (omega (arith, first, last));
    counted = λ i p there. absurd (cc);
  }

  abbrev done : Moving
  done = after_all sides start events

  abbrev ended : Moving
  ended = after_all sides done (to_their_ends frames)

  one : IsKept count total start done
  one = after_kept sides count total events start start_tracked

  two : IsKept count total done ended
  two = after_kept sides count total (to_their_ends frames) done one.tracked

  ended_all : (i : ℕ) → IsEnded ended i
  ended_all i = by (less_or i count)
    where
      by : (i < count) ⊎ (count ≤ i) → IsEnded ended i
      by (inl less) = ends_all sides count total MAX_STAGES (omega arith) frames 0 done one.tracked
          (λ j within. absurd (omega (arith, within))) i (omega (arith, less))
      by (inr past) =
          let many = two.tracked.many in
          let none : slice_get ended.seats i ≡ None = slice_get_past ended.seats i (omega (arith, past, many)) in
          subst (λ (o : Option Seat). has_ended ended.update o ≡ true) (sym none) refl

  each_over : (i : ℕ) (p : InFlight) → slice_get (those ended) i ≡ Some p → is_some p.ended ≡ true
  each_over i p there =
      let less = within_of (those ended) i p there in
      let c = two.tracked.covered (suc i) (record { first = omega arith; last = omega (arith, less) }) in
      let seat : has_ended ended.update (Some (seats.Entered (suc i))) ≡ true =
      subst (λ (o : Option Seat). has_ended ended.update o ≡ true) c.1 (ended_all c.0) in
      subst (λ (o : Option InFlight). ended_in o ≡ true) there seat

  all_same : after_all sides start (events_and_rest start frames events) ≡ after_all sides ended (edits_left start)
  all_same = after_append sides events (to_their_ends frames ++ edits_left start) start
      ∙ after_append sides (to_their_ends frames) (edits_left start) done

  pub nothing_left : IsOver (after_all sides start (events_and_rest start frames events))
  nothing_left =
      let three = after_kept sides count total (edits_left start) ended two.tracked in
      let all = two.tracked.all in
      subst IsOver (sym all_same) (record {
        packets = λ at. three.over at (ended_all at);
        edits = edits_all sides total ended (all_over (those ended) each_over) (omega (arith, all));
      })
