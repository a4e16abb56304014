-- A packet of an update that is to come: what is told of it by events, and in which description it enters.
use Rattle.std.proofs.Common.{◌≡◌, ◌≢◌, ◌⊎◌, inl, inr, ℕ, zero, suc, ◌+◌, ◌<◌, ◌≤◌, nat_le, nat_eq, Bool, true, false, if◌then◌else◌, List, [], ◌∷◌, ◌++◌, length, length-append, slice_get, All, Option, Some, None, Result, Ok, refl, sym, ap, ap₂, ◌∙◌, subst, arith}
use Rattle.std.specs.Prelude.{◌||◌}
use Rattle.std.proofs.lemmas.Bool.{eqb-true, eqb-false, leb-true, leb-false, le-leb, lt-leb}
use Rattle.std.proofs.lemmas.List.Elements.{filter-append}
use Rattle.pcap_io.specs.declared.frame.Body.{Body}
use Rattle.net_model.specs.declared.net.EntryId.{EntryId}
use Rattle.net_model.specs.Network.{Network}
use Rattle.walk_rules.specs.declared.limits.TheConstants.{MAX_STAGES}
use Rattle.walk_rules.specs.declared.place.Ended.{Ended}
use Rattle.walk_rules.specs.Walk.{Stage, choice_at}
use Rattle.walk_rules.proofs.PublicLaws.{length_walk_of}
use Rattle.node_stage.specs.Fronted.{fronted}
use Rattle.packet_walk.specs.Flight.{InFlight, packet_in, stage_in, staged}
use Rattle.packet_walk.specs.Rest.{rest_of}
use Rattle.packet_walk.proofs.PublicLaws.{entering_counted}
use Rattle.update_spec.specs.Changes.{added_entries, removed_entries}
use Rattle.update_flight.specs.declared.table_edit.Busy.{Busy}
use Rattle.update_flight.specs.declared.table_edit.Edit.{Edit}
use Rattle.update_flight.specs.declared.table_edit.Edit.TheVariants.{Added, Switched}
use Rattle.update_flight.specs.Interleaving.{PassOver, own_of}
use Rattle.update_flight.specs.MomentTables.{HasRoute}
use Rattle.update_flight.specs.Transition.{Transition, answer_of, answer_to, done_after, edited, edits, first_early, is_before_switch, or_finished}
use Rattle.update_flight.proofs.PublicLaws.{done_least, own_entry}
use Rattle.update_plan.specs.UpdateState.{Update, tables_now}
use Rattle.update_plan.specs.UpdateStateTerms.{tables_between}
use Rattle.run_commands.specs.declared.enters.Entrant.{Entrant}
use Rattle.run_commands.specs.declared.enters.EarlyEnd.{EarlyEnd}
use Rattle.run_commands.specs.Admission.{Admission, EndsEarly, Admitted}
use Rattle.update_driver.specs.declared.seat.Seat.{Seat}
use Rattle.update_driver.specs.declared.seat.Seat.TheVariants as seats
use Rattle.update_driver.specs.Moving.{Doing, Happening, Staged, Stayed, Moving, Sides, after_entering, after_staying, as_in_flight, coming_by, doing, editing, entered_count, first_member, happening, side_of, stepping, happenings_of_turn, happenings_where, turning}
use Rattle.update_commands.specs.WholeUpdate.{comes_early, is_of, happened_to}
use Rattle.update_commands.proofs.WholeLists.{get_seam, set_elsewhere, set_here}
use Rattle.update_commands.proofs.Entered.{Here, Conclusion, doing_mine, takes, times}
use Rattle.update_commands.proofs.Tracking.{IsThrough, other_number, same_number, through_edited, through_entered, through_stayed, through_turned, told_edit, told_stay, told_stayed, told_turn}
use Rattle.std.proofs.lemmas.Option.{slice_get_within}

-- ---- the edits before and behind the switch

next_edit : (added removed : List EntryId) (done : ℕ) → done ≤ length added
    → ((entry : EntryId) × (slice_get (edits added removed) done ≡ Some (Added entry)) × (done < length added))
    ⊎ ((slice_get (edits added removed) done ≡ Some Switched) × (done ≡ length added))
next_edit [] removed zero few = inr (refl, refl)
next_edit [] removed (suc done) few = absurd (omega (arith, few))
next_edit (a ∷ added) removed zero few = inl (a, refl, omega arith)
next_edit (a ∷ added) removed (suc done) few = elim (next_edit added removed done (omega (arith, few))) [
  | inl one ↦ (let less = one.2 in inl (one.0, one.1, omega (arith, less)))
  | inr last ↦ (let same = last.1 in inr (last.0, (let e : suc done ≡ suc (length added) = omega (arith, same) in e)))
]

-- before the switch an edit adds, or is the switch
pub record Adds (t : Transition) : Type 0 where
  pub entry : EntryId
  pub answer : answer_of t ≡ Ok (Added entry)
  pub still : is_before_switch (edited t) ≡ true

pub record Switches (t : Transition) : Type 0 where
  pub answer : answer_of t ≡ Ok Switched
  pub now : is_before_switch (edited t) ≡ false

pub edit_before : (t : Transition) → is_before_switch t ≡ true → Adds t ⊎ Switches t
edit_before t before = elim (next_edit t.added t.removed t.done (leb-true t.done (length t.added) before)) [
  | inl one ↦ (
      let is : answer_of t ≡ Ok (Added one.0) = ap (λ (o : Option Edit). answer_to (first_early t) (or_finished o)) one.1 in
      let less = one.2 in
      inl (record {
        entry = one.0;
        answer = is;
        still = ap (λ (r : Result Edit Busy). nat_le (done_after t.done r) (length t.added)) is
            ∙ le-leb (t.done + 1) (length t.added) (omega (arith, less));
      }))
  | inr last ↦ (
      let is : answer_of t ≡ Ok Switched = ap (λ (o : Option Edit). answer_to (first_early t) (or_finished o)) last.0 in
      let same = last.1 in
      inr (record {
        answer = is;
        now = ap (λ (r : Result Edit Busy). nat_le (done_after t.done r) (length t.added)) is
            ∙ lt-leb (t.done + 1) (length t.added) (omega (arith, same));
      }))
]

-- behind it they stay so
pub edit_behind : (t : Transition) → is_before_switch t ≡ false → is_before_switch (edited t) ≡ false
edit_behind t behind =
    let less = leb-false t.done (length t.added) behind in
    let least = done_least t.added t.removed (first_early t) t.done in
    lt-leb (edited t).done (length t.added) (omega (arith, less, least))

-- ---- whether a packet comes early, when something else happens

module _ (number : ℕ) where
  early_where : (other : ℕ) (u : Update) (p : InFlight) (e : Option Ended) (more : List Happening) → other ≢ number
      → comes_early number (happenings_where other u p e ++ more) ≡ comes_early number more
  early_where other u p None more apart = ap (λ (b : Bool). b || comes_early number more) (other_number number other apart)
  early_where other u p (Some end) more apart = refl

  pub early_turn : (other : ℕ) (u : Update) (o : Option InFlight) (more : List Happening) → other ≢ number
      → comes_early number (happenings_of_turn other u o ++ more) ≡ comes_early number more
  early_turn other u None more apart = refl
  early_turn other u (Some p) more apart = early_where other u p p.ended more apart

  pub early_stay : (other : ℕ) (stays : EarlyEnd) (more : List Happening) → other ≢ number
      → comes_early number (Stayed other stays ∷ more) ≡ comes_early number more
  early_stay other stays more apart = ap (λ (b : Bool). b || comes_early number more) (other_number number other apart)

  pub early_own : (s : Stage) (e : Option Ended) (more : List Happening) → comes_early number (Staged number s e ∷ more) ≡ true
  early_own s e more = ap (λ (b : Bool). b || comes_early number more) (same_number number)

  pub early_stayed : (stays : EarlyEnd) (more : List Happening) → comes_early number (Stayed number stays ∷ more) ≡ true
  early_stayed stays more = ap (λ (b : Bool). b || comes_early number more) (same_number number)

module _ (old new : Network) (pass : PassOver (tables_between old new) (added_entries old new) (removed_entries old new)) (sides : Sides)
    (at : ℕ) where
  abbrev number : ℕ
  number = suc at

  -- ---- the seat of a packet that isn't in flight

  -- what is so where nothing is told of the packet, and its seat is as it was
  pub record StaysPut (seat : Seat) (d : Doing) : Type 0 where
    pub none : happened_to number d.happens ≡ []
    pub through : IsThrough old new d.after
    pub there : slice_get d.after.seats at ≡ Some seat

  module _ (seat : Seat) (m : Moving) (t : IsThrough old new m) (there : slice_get m.seats at ≡ Some seat) where
    as_it_is : StaysPut seat (record { happens = []; after = m })
    as_it_is = record { none = refl; through = t; there = there }

    put_edit : StaysPut seat (editing m)
    put_edit = record { none = told_edit number m.numbers _; through = through_edited old new m t; there = there }

    module _ (i : ℕ) (apart : i ≢ at) where
      not_its : suc i ≢ number
      not_its = λ e. apart (let s : i ≡ at = omega (arith, e) in s)

      put_turn : (j : ℕ) (n : Moving) → IsThrough old new n → slice_get n.seats at ≡ Some seat → StaysPut seat (turning (suc i) j n)
      put_turn j n tn tm = record {
        none = told_turn number (suc i) n.update (packet_in n.update.transition.packets.packets j) not_its;
        through = through_turned old new (suc i) j n tn;
        there = tm;
      }

      put_come : (other : Seat) → slice_get m.seats i ≡ Some other → (e : Admission) → StaysPut seat (coming_by i m e)
      put_come other found (EndsEarly stays) = record {
        none = told_stay number (suc i) (Stayed (suc i) stays) (other_number number (suc i) not_its);
        through = through_stayed old new i other m found t;
        there = set_elsewhere m.seats i at seats.Gone apart ∙ there;
      }
      put_come other found (Admitted comes) =
          put_turn (entered_count m + 1) (after_entering i (as_in_flight comes) m)
          (through_entered old new i other (as_in_flight comes) m found t)
          (set_elsewhere m.seats i at (seats.Entered (entered_count m + 1)) apart ∙ there)

      put_step : (o : Option Seat) → slice_get m.seats i ≡ o → StaysPut seat (stepping sides i m o)
      put_step None found = as_it_is
      put_step (Some (seats.ToCome body)) found = put_come (seats.ToCome body) found (side_of sides m.update body)
      put_step (Some (seats.Entered j)) found = put_turn j m t there
      put_step (Some seats.Gone) found = as_it_is

    pub put_event : (e : ℕ) → e ≢ number → StaysPut seat (doing sides e m)
    put_event zero apart = put_edit
    put_event (suc i) apart = put_step i (λ e. apart (ap suc e)) (slice_get m.seats i) refl

  told_then : (d : Doing) (events : List ℕ) → happened_to number (d.happens ++ happening sides d.after events)
      ≡ happened_to number d.happens ++ happened_to number (happening sides d.after events)
  told_then d events = filter-append (is_of number) d.happens (happening sides d.after events)

  pub told_later : (seat : Seat) (d : Doing) (events : List ℕ) → StaysPut seat d
      → happened_to number (d.happens ++ happening sides d.after events) ≡ happened_to number (happening sides d.after events)
  told_later seat d events put =
      told_then d events ∙ ap (λ (xs : List Happening). xs ++ happened_to number (happening sides d.after events)) put.none

  -- ---- nothing is told of a packet that is gone
  pub none_gone : (events : List ℕ) (m : Moving) → IsThrough old new m → slice_get m.seats at ≡ Some seats.Gone
      → happened_to number (happening sides m events) ≡ []
  none_gone [] m t there = refl
  none_gone (e ∷ events) m t there = by (λ n tn there. none_gone events n tn there) (nat_eq e number) refl
    where
      by : ((n : Moving) → IsThrough old new n → slice_get n.seats at ≡ Some seats.Gone → happened_to number (happening sides n events) ≡ [])
          → (b : Bool) → nat_eq e number ≡ b → happened_to number (happening sides m (e ∷ events)) ≡ []
      by later true is =
          let same : e ≡ number = eqb-true e number is in
          let does : doing sides e m ≡ record { happens = []; after = m } =
          ap (λ (x : ℕ). doing sides x m) same ∙ ap (stepping sides at m) there in
          ap (λ (x : Doing). happened_to number (x.happens ++ happening sides x.after events)) does ∙ later m t there
      by later false is =
          let put = put_event seats.Gone m t there e (eqb-false e number is) in
          told_later seats.Gone (doing sides e m) events put ∙ later (doing sides e m).after put.through put.there

  -- ---- its own event

  -- its own description: the tables before all edits, or behind them
  abbrev pub own_tables : Bool → Network
  own_tables early =
      if early then tables_between old new 0 else tables_between old new (length (edits (added_entries old new) (removed_entries old new)))

  -- what is told of a packet as it enters, or stays
  abbrev pub ToldBy : Bool → List Happening → Admission → Type 0
  ToldBy early told (EndsEarly stays) = told ≡ Stayed number stays ∷ []
  ToldBy early told (Admitted comes) = (first more : List Stage) → first ++ more ≡ rest_of (own_tables early) (as_in_flight comes)
      → All HasRoute first
      → (k : ℕ) × Conclusion old new pass sides at k (own_tables early) told (as_in_flight comes) first more

  module _ (body : Body) where
    abbrev pub entry_by : Bool → Admission
    entry_by early = (if early then sides.old else sides.new) body

    module _ (m : Moving) (t : IsThrough old new m) (there : slice_get m.seats at ≡ Some (seats.ToCome body)) (events : List ℕ) where
      abbrev early_now : Bool
      early_now = is_before_switch m.update.transition

      -- it stays
      stay_told : (stays : EarlyEnd) → doing sides number m ≡ coming_by at m (EndsEarly stays)
          → happened_to number (happening sides m (number ∷ events)) ≡ Stayed number stays ∷ []
      stay_told stays does =
          ap (λ (x : Doing). happened_to number (x.happens ++ happening sides x.after events)) does
          ∙ (told_then (coming_by at m (EndsEarly stays)) events
          ∙ ap₂ (λ (xs ys : List Happening). xs ++ ys) (told_stayed number stays)
          (none_gone events (after_staying at m) (through_stayed old new at (seats.ToCome body) m there t)
          (set_here m.seats at seats.Gone (slice_get_within m.seats at (seats.ToCome body) there))))

      -- it enters
      module _ (comes : Entrant) (does : doing sides number m ≡ coming_by at m (Admitted comes)) where
        abbrev p : InFlight
        p = as_in_flight comes

        abbrev k : ℕ
        k = entered_count m + 1

        abbrev now : Moving
        now = after_entering at p m

        k_is : k ≡ suc (entered_count m)
        k_is = omega arith

        entered_one : (if early_now then p else p) ≡ p
        entered_one = by early_now
          where
            by : (b : Bool) → (if b then p else p) ≡ p
            by true = refl
            by false = refl

        there_now : packet_in now.update.transition.packets.packets k ≡ Some p
        there_now =
            ap (packet_in now.update.transition.packets.packets) k_is
            ∙ (get_seam m.update.transition.packets.packets (if early_now then p else p) (entered_count m) refl
            ∙ ap (λ (q : InFlight). Some q) entered_one)

        own_now : own_of (tables_between old new) now.update.transition k ≡ own_tables early_now
        own_now =
            ap (own_of (tables_between old new) now.update.transition) k_is
            ∙ (own_entry (tables_between old new) m.update.transition p p t.is
            ∙ ap₂ (λ (l r : List EntryId). if early_now then tables_between old new 0 else tables_between old new (length (edits l r)))
            t.added t.removed)

        here : Here old new pass sides at k (own_tables early_now) now p
        here = record {
          through = through_entered old new at (seats.ToCome body) p m there t;
          seat = set_here m.seats at (seats.Entered k) (slice_get_within m.seats at (seats.ToCome body) there);
          there = there_now;
          own_is = own_now;
          counted = entering_counted (fronted comes.content 0) comes.place first_member (omega arith);
        }

        same_now : happening sides m (number ∷ events) ≡ happening sides now (number ∷ events)
        same_now =
            ap (λ (x : Doing). x.happens ++ happening sides x.after events)
            (does ∙ sym (doing_mine old new pass sides at k (own_tables early_now) now p here))

        enter_told : MAX_STAGES ≤ times number (number ∷ events)
            → ToldBy early_now (happened_to number (happening sides m (number ∷ events))) (Admitted comes)
        enter_told enough first more is routes =
            let whole = length_walk_of MAX_STAGES (own_tables early_now) (Some comes.place) comes.content (choice_at first_member) 0 in
            let total : length first + length more ≡ length (rest_of (own_tables early_now) p) =
            sym (length-append first more) ∙ ap (λ (ss : List Stage). length ss) is in (
              k,
              subst (λ (told : List Happening). Conclusion old new pass sides at k (own_tables early_now) told p first more)
                  (sym (ap (happened_to number) same_now))
                  (takes old new pass sides at k (own_tables early_now) (number ∷ events) now p first more here is routes
                  (omega (arith, enough, whole, total))),
            )

        -- and it is told of at once
        at_once : comes_early number (happening sides m (number ∷ events)) ≡ true
        at_once =
            ap (λ (x : Doing). comes_early number (x.happens ++ happening sides x.after events)) does
            ∙ (ap (λ (o : Option InFlight).
            comes_early number (happenings_of_turn number now.update o ++ happening sides (turning number k now).after events)) there_now
            ∙ early_own number (stage_in (tables_now now.update) p) (staged (tables_now now.update) p).ended
            (happening sides (turning number k now).after events))

      mine_does : (e : Admission) → side_of sides m.update body ≡ e → doing sides number m ≡ coming_by at m e
      mine_does e is = ap (stepping sides at m) there ∙ ap (coming_by at m) is

      mine_told_by : (e : Admission) → side_of sides m.update body ≡ e → MAX_STAGES ≤ times number (number ∷ events)
          → ToldBy early_now (happened_to number (happening sides m (number ∷ events))) e
      mine_told_by (EndsEarly stays) is enough = stay_told stays (mine_does (EndsEarly stays) is)
      mine_told_by (Admitted comes) is enough = enter_told comes (mine_does (Admitted comes) is) enough

      mine_early_by : (e : Admission) → side_of sides m.update body ≡ e → comes_early number (happening sides m (number ∷ events)) ≡ true
      mine_early_by (EndsEarly stays) is =
          ap (λ (x : Doing). comes_early number (x.happens ++ happening sides x.after events)) (mine_does (EndsEarly stays) is)
          ∙ early_stayed number stays (happening sides (after_staying at m) events)
      mine_early_by (Admitted comes) is = at_once comes (mine_does (Admitted comes) is)

      pub mine_told : MAX_STAGES ≤ times number (number ∷ events)
          → ToldBy early_now (happened_to number (happening sides m (number ∷ events))) (side_of sides m.update body)
      mine_told enough = mine_told_by (side_of sides m.update body) refl enough

      pub mine_early : comes_early number (happening sides m (number ∷ events)) ≡ true
      mine_early = mine_early_by (side_of sides m.update body) refl
