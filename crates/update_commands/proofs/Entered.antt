-- A packet of an update that entered: what is told of it by events is its walk in its own description, as far as that meets routes.
use Rattle.std.proofs.Common.{◌≡◌, ◌≢◌, ℕ, zero, suc, ◌+◌, ◌≤◌, nat_le, nat_eq, Bool, true, false, if◌then◌else◌, List, [], ◌∷◌, ◌++◌, length, slice_get, All, Option, Some, None, refl, sym, ap, ap₂, ◌∙◌, subst, arith}
use Rattle.std.proofs.lemmas.Bool.{eqb-true, eqb-false, leb-true, le-leb}
use Rattle.std.proofs.lemmas.List.Elements.{All-head, All-tail, filter-append}
use Rattle.std.proofs.lemmas.Option.{slice_get_within}
use Rattle.net_model.specs.declared.net.EntryId.{EntryId}
use Rattle.net_model.specs.Network.{Network}
use Rattle.walk_rules.specs.declared.place.Ended.{Ended}
use Rattle.walk_rules.specs.Walk.{Stage}
use Rattle.packet_walk.specs.Flight.{Flight, InFlight, packet_in, stage_in, staged, within}
use Rattle.packet_walk.specs.FlightTerms.{IsCounted}
use Rattle.packet_walk.specs.Rest.{rest_of}
use Rattle.packet_walk.proofs.PublicLaws.{packet_behind, rest_ended, rest_going, staged_counted, turned_ended, turned_other, turned_staged}
use Rattle.update_spec.specs.Changes.{added_entries, removed_entries}
use Rattle.update_flight.specs.Interleaving.{PassOver, own_of}
use Rattle.update_flight.specs.MomentTables.{HasRoute}
use Rattle.update_flight.specs.MomentTablesTerms.{KeepsOwn}
use Rattle.update_flight.specs.Transition.{Transition, edit_count, entered, is_before_switch}
use Rattle.update_flight.specs.TransitionTerms.{IsTransition}
use Rattle.update_flight.proofs.PublicLaws.{own_stage, own_staged, own_kept}
use Rattle.update_plan.specs.UpdateState.{tables_now}
use Rattle.update_plan.specs.UpdateStateTerms.{tables_between}
use Rattle.run_commands.specs.Admission.{Admission, EndsEarly, Admitted}
use Rattle.update_driver.specs.declared.seat.Seat.{Seat}
use Rattle.update_driver.specs.declared.seat.Seat.TheVariants as seats
use Rattle.update_driver.specs.Moving.{Doing, Happening, Staged, Stayed, Moving, Sides, after_entering, as_in_flight, coming_by, doing, entered_count, happening, side_of, stepping, happenings_of_turn, happenings_where, turning}
use Rattle.update_commands.specs.WholeUpdate.{is_of, happened_to}
use Rattle.update_commands.proofs.WholeLists.{set_elsewhere}
use Rattle.update_commands.proofs.Tracking.{IsThrough, other_number, tables_are, through_edited, through_entered, through_stayed, through_turned, told_edit, told_own, told_stay, told_turn}

-- ---- a packet's own description stays its own when another enters

own_entered : (tables : ℕ → Network) (t : Transition) (p : InFlight) (number : ℕ) → IsTransition t → number ≤ length t.packets.packets
    → own_of tables (entered t p p) number ≡ own_of tables t number
own_entered tables t p number is within = by (is_before_switch t) refl where
  by : (early : Bool) → is_before_switch t ≡ early
      → (if nat_le number (if early then suc t.early else t.early) then tables 0 else tables (edit_count t)) ≡ own_of tables t number
  by true before =
      let each : t.early ≡ length t.packets.packets = is.before (leb-true t.done (length t.added) before) in
      let now : nat_le number (suc t.early) ≡ true = le-leb number (suc t.early) (omega (arith, each, within)) in
      let was : nat_le number t.early ≡ true = le-leb number t.early (omega (arith, each, within)) in
      ap (λ (b : Bool). if b then tables 0 else tables (edit_count t)) (now ∙ sym was)
  by false before = refl

pub packet_within : (packets : List InFlight) (k : ℕ) (p : InFlight) → packet_in packets k ≡ Some p → k ≤ length packets
packet_within packets zero p there = omega arith
packet_within packets (suc before) p there = let less = slice_get_within packets before p there in omega (arith, less)

-- ---- what is told of a packet whose walk has these stages

abbrev pub tellings : ℕ → Network → InFlight → List Stage → List Happening
tellings number net p [] = []
tellings number net p (s ∷ more) = Staged number s (staged net p).ended ∷ tellings number net (staged net p) more

-- how many of the events name a packet
abbrev pub times : ℕ → List ℕ → ℕ
times number [] = 0
times number (e ∷ more) = if nat_eq e number then suc (times number more) else times number more

module _ (old new : Network) (pass : PassOver (tables_between old new) (added_entries old new) (removed_entries old new)) (sides : Sides)
    (at k : ℕ) (own : Network) where
  abbrev number : ℕ
  number = suc at

  -- the packet that has the seat entered with a number, and is this one now; its own description
  pub record Here (m : Moving) (p : InFlight) : Type 0 where
    pub through : IsThrough old new m
    pub seat : slice_get m.seats at ≡ Some (seats.Entered k)
    pub there : packet_in m.update.transition.packets.packets k ≡ Some p
    pub own_is : own_of (tables_between old new) m.update.transition k ≡ own
    pub counted : IsCounted p

  -- ---- an event of its own

  module _ (m : Moving) (p : InFlight) (h : Here m p) where
    pub doing_mine : doing sides (suc at) m ≡ turning (suc at) k m
    doing_mine = ap (stepping sides at m) h.seat

    passes : PassOver (tables_between old new) m.update.transition.added m.update.transition.removed
    passes = subst (λ (l : List EntryId). PassOver (tables_between old new) l m.update.transition.removed) (sym h.through.added)
        (subst (λ (l : List EntryId). PassOver (tables_between old new) (added_entries old new) l) (sym h.through.removed) pass)

    module _ (going : p.ended ≡ None) where
      keeps : KeepsOwn own (tables_now m.update)
      keeps = subst (λ (net : Network). KeepsOwn own net) (sym (tables_are old new m h.through))
          (subst (λ (net : Network). KeepsOwn net (tables_between old new m.update.transition.done)) h.own_is
          (own_kept (tables_between old new) m.update.transition passes h.through.is k p h.there going))

      pub mine_told : HasRoute (stage_in own p)
          → (turning number k m).happens ≡ Staged number (stage_in own p) (staged own p).ended ∷ []
      mine_told route =
          ap (happenings_of_turn number m.update) h.there
          ∙ (ap (happenings_where number m.update p) going
          ∙ ap₂ (λ (s : Stage) (q : InFlight). Staged number s q.ended ∷ [])
          (own_stage own (tables_now m.update) keeps p route) (own_staged own (tables_now m.update) keeps p route))

      pub mine_next : HasRoute (stage_in own p) → Here (turning number k m).after (staged own p)
      mine_next route = record {
        through = through_turned old new number k m h.through;
        seat = h.seat;
        there = turned_staged k (within (tables_now m.update) m.update.transition.packets) p h.there going
            ∙ ap (λ (q : InFlight). Some q) (own_staged own (tables_now m.update) keeps p route);
        own_is = h.own_is;
        counted = staged_counted own p going h.counted;
      }

    module _ (end : Ended) (over : p.ended ≡ Some end) where
      pub over_told : (turning number k m).happens ≡ []
      over_told = ap (happenings_of_turn number m.update) h.there ∙ ap (happenings_where number m.update p) over

      pub over_next : Here (turning number k m).after p
      over_next = record {
        through = through_turned old new number k m h.through;
        seat = h.seat;
        there = ap (λ (f : Flight). packet_in f.packets k)
            (turned_ended k (within (tables_now m.update) m.update.transition.packets) p end h.there over) ∙ h.there;
        own_is = h.own_is;
        counted = h.counted;
      }

  -- ---- another event

  -- nothing is told of the packet, and it is as it was
  abbrev Apart : InFlight → Doing → Type 0
  Apart p d = (happened_to number d.happens ≡ []) × Here d.after p

  turn_other : (m : Moving) (p : InFlight) → Here m p → (other j : ℕ) → other ≢ number → j ≢ k → Apart p (turning other j m)
  turn_other m p h other j one two = (
    told_turn number other m.update (packet_in m.update.transition.packets.packets j) one,
    record {
      through = through_turned old new other j m h.through;
      seat = h.seat;
      there = turned_other j k (within (tables_now m.update) m.update.transition.packets) two ∙ h.there;
      own_is = h.own_is;
      counted = h.counted;
    },
  )

  module _ (m : Moving) (p : InFlight) (h : Here m p) (i : ℕ) (apart : i ≢ at) where
    other_than : suc i ≢ number
    other_than = λ e. apart (let s : i ≡ at = omega (arith, e) in s)

    come_other : (seat : Seat) → slice_get m.seats i ≡ Some seat → (e : Admission) → Apart p (coming_by i m e)
    come_other seat found (EndsEarly stays) = (
      told_stay number (suc i) (Stayed (suc i) stays) (other_number number (suc i) other_than),
      record {
        through = through_stayed old new i seat m found h.through;
        seat = set_elsewhere m.seats i at seats.Gone apart ∙ h.seat;
        there = h.there;
        own_is = h.own_is;
        counted = h.counted;
      },
    )
    come_other seat found (Admitted comes) =
        let q : InFlight = as_in_flight comes in
        let those : List InFlight = m.update.transition.packets.packets in
        let less : k ≤ length those = packet_within those k p h.there in
        let entered_now : Here (after_entering i q m) p = record {
          through = through_entered old new i seat q m found h.through;
          seat = set_elsewhere m.seats i at (seats.Entered (entered_count m + 1)) apart ∙ h.seat;
          there = packet_behind those ((if is_before_switch m.update.transition then q else q) ∷ []) k p h.there;
          own_is = own_entered (tables_between old new) m.update.transition q k h.through.is less ∙ h.own_is;
          counted = h.counted;
        } in
        turn_other (after_entering i q m) p entered_now (suc i) (entered_count m + 1) other_than (λ e. omega (arith, e, less))

    one_frame : (j : ℕ) → slice_get m.seats i ≡ Some (seats.Entered j) → j ≢ k
    one_frame j found same =
        let one = h.through.each i j found in
        let two = h.through.each at k h.seat in
        let before : one.0 ≡ two.0 = (let a = one.1 in let b = two.1 in omega (arith, same, a, b)) in
        let both : Some (suc i) ≡ Some (suc at) = sym one.2 ∙ (ap (slice_get m.numbers) before ∙ two.2) in
        apart (let e : suc i ≡ suc at = cc in omega (arith, e))

    step_other : (o : Option Seat) → slice_get m.seats i ≡ o → Apart p (stepping sides i m o)
    step_other None found = (refl, h)
    step_other (Some (seats.ToCome body)) found = come_other (seats.ToCome body) found (side_of sides m.update body)
    step_other (Some (seats.Entered j)) found = turn_other m p h (suc i) j other_than (one_frame j found)
    step_other (Some seats.Gone) found = (refl, h)

  pub other_event : (m : Moving) (p : InFlight) → Here m p → (e : ℕ) → e ≢ number → Apart p (doing sides e m)
  other_event m p h zero apart = (
    told_edit number m.numbers _,
    record {
      through = through_edited old new m h.through;
      seat = h.seat;
      there = h.there;
      own_is = h.own_is;
      counted = h.counted;
    },
  )
  other_event m p h (suc i) apart = step_other m p h i (λ e. apart (ap suc e)) (slice_get m.seats i) refl

  -- ---- events one after the other

  told_then : (d : Doing) (events : List ℕ) → happened_to number (d.happens ++ happening sides d.after events)
      ≡ happened_to number d.happens ++ happened_to number (happening sides d.after events)
  told_then d events = filter-append (is_of number) d.happens (happening sides d.after events)

  -- nothing more is told of it where it has ended
  pub none_left : (events : List ℕ) (m : Moving) (p : InFlight) (end : Ended) → Here m p → p.ended ≡ Some end
      → happened_to number (happening sides m events) ≡ []
  none_left [] m p end h over = refl
  none_left (e ∷ events) m p end h over = by (λ n there. none_left events n p end there over) (nat_eq e number) refl
    where
      by : ((n : Moving) → Here n p → happened_to number (happening sides n events) ≡ []) → (b : Bool) → nat_eq e number ≡ b
          → happened_to number (happening sides m (e ∷ events)) ≡ []
      by later true is =
          let same : e ≡ number = eqb-true e number is in
          let d : Doing = turning number k m in
          let does : doing sides e m ≡ d = ap (λ (x : ℕ). doing sides x m) same ∙ doing_mine m p h in
          ap (λ (x : Doing). happened_to number (x.happens ++ happening sides x.after events)) does
          ∙ (told_then d events
          ∙ (ap (λ (xs : List Happening). happened_to number xs ++ happened_to number (happening sides d.after events)) (over_told m p h end over)
          ∙ later d.after (over_next m p h end over)))
      by later false is =
          let d : Doing = doing sides e m in
          let other = other_event m p h e (eqb-false e number is) in
          told_then d events
          ∙ (ap (λ (xs : List Happening). xs ++ happened_to number (happening sides d.after events)) other.0
          ∙ later d.after other.1)

  -- what is told begins with the stages of a front of its walk
  pub record Conclusion (told : List Happening) (p : InFlight) (first more : List Stage) : Type 0 where
    pub behind : List Happening
    pub is : told ≡ tellings number own p first ++ behind
    pub over : more ≡ [] → behind ≡ []

  ended_by : (p : InFlight) → IsCounted p → rest_of own p ≡ [] → (e : Option Ended) → p.ended ≡ e → (end : Ended) × (p.ended ≡ Some end)
  ended_by p counted none None is =
      absurd (let rest = rest_going own p is (counted.left is) in cc)
  ended_by p counted none (Some end) is = (end, is)

  none_first : (events : List ℕ) (m : Moving) (p : InFlight) (more : List Stage) → Here m p → more ≡ rest_of own p
      → Conclusion (happened_to number (happening sides m events)) p [] more
  none_first events m p more h is = record {
    behind = happened_to number (happening sides m events);
    is = refl;
    over = λ none. let e = ended_by p h.counted (sym is ∙ none) p.ended refl in none_left events m p e.0 h e.1;
  }

  pub takes : (events : List ℕ) (m : Moving) (p : InFlight) (first more : List Stage) → Here m p → first ++ more ≡ rest_of own p
      → All HasRoute first → length first ≤ times number events → Conclusion (happened_to number (happening sides m events)) p first more
  takes [] m p [] more h is routes few = none_first [] m p more h is
  takes [] m p (s ∷ first) more h is routes few = absurd (omega (arith, few))
  takes (e ∷ events) m p [] more h is routes few = none_first (e ∷ events) m p more h is
  takes (e ∷ events) m p (s ∷ first) more h is routes few =
      by_end (λ n q ss there same all enough. takes events n q ss more there same all enough) p.ended refl
    where
      Goal : Type 0
      Goal = Conclusion (happened_to number (happening sides m (e ∷ events))) p (s ∷ first) more

      -- what the later events tell
      Later : Type 0
      Later = (n : Moving) (q : InFlight) (ss : List Stage) → Here n q → ss ++ more ≡ rest_of own q → All HasRoute ss
          → length ss ≤ times number events → Conclusion (happened_to number (happening sides n events)) q ss more

      mine : Later → p.ended ≡ None → nat_eq e number ≡ true → length first ≤ times number events → Goal
      mine behind going same-event fewer =
          let same : e ≡ number = eqb-true e number same-event in
          let rest = rest_going own p going (h.counted.left going) in
          let both : s ∷ (first ++ more) ≡ stage_in own p ∷ rest_of own (staged own p) = is ∙ rest in
          let head : s ≡ stage_in own p = cc in
          let tail : first ++ more ≡ rest_of own (staged own p) = cc in
          let route : HasRoute (stage_in own p) = subst HasRoute head (All-head HasRoute s first routes) in
          let d : Doing = turning number k m in
          let does : doing sides e m ≡ d = ap (λ (x : ℕ). doing sides x m) same ∙ doing_mine m p h in
          let later = behind d.after (staged own p) first (mine_next m p h going route) tail (All-tail HasRoute s first routes) fewer in
          let one : happened_to number d.happens ≡ Staged number s (staged own p).ended ∷ [] =
          ap (happened_to number) (mine_told m p h going route)
          ∙ (told_own number (stage_in own p) (staged own p).ended
          ∙ ap (λ (x : Stage). Staged number x (staged own p).ended ∷ []) (sym head)) in
          record {
            behind = later.behind;
            is = ap (λ (x : Doing). happened_to number (x.happens ++ happening sides x.after events)) does
                ∙ (told_then d events
                ∙ ap₂ (λ (xs ys : List Happening). xs ++ ys) one later.is);
            over = later.over;
          }

      other : Later → (b : Bool) → nat_eq e number ≡ b → p.ended ≡ None
          → length (s ∷ first) ≤ (if b then suc (times number events) else times number events)
          → Goal
      other behind true is-mine going enough = mine behind going is-mine (omega (arith, enough))
      other behind false is-not going enough =
          let d : Doing = doing sides e m in
          let apart = other_event m p h e (eqb-false e number is-not) in
          let later = behind d.after p (s ∷ first) apart.1 is routes enough in
          record {
            behind = later.behind;
            is = told_then d events
                ∙ (ap (λ (xs : List Happening). xs ++ happened_to number (happening sides d.after events)) apart.0 ∙ later.is);
            over = later.over;
          }

      by_end : Later → (o : Option Ended) → p.ended ≡ o → Goal
      by_end behind None going = other behind (nat_eq e number) refl going few
      by_end behind (Some end) over = absurd (let rest = rest_ended own p end over in cc (is ∙ rest))
