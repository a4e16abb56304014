-- A packet of an update that is to come takes the walk of the description that is its own when it enters.
use Rattle.std.proofs.Common.{◌≡◌, ◌≢◌, inl, inr, ℕ, zero, suc, ◌+◌, ◌≤◌, nat_eq, Bool, true, false, if◌then◌else◌, List, [], ◌∷◌, ◌++◌, slice_get, Option, Some, None, Result, refl, sym, ap, ◌∙◌, subst, arith}
use Rattle.std.proofs.lemmas.Bool.{eqb-true, eqb-false}
use Rattle.pcap_io.specs.declared.frame.Body.{Body}
use Rattle.net_model.specs.Network.{Network}
use Rattle.walk_rules.specs.declared.limits.TheConstants.{MAX_STAGES}
use Rattle.update_spec.specs.Changes.{added_entries, removed_entries}
use Rattle.update_flight.specs.declared.table_edit.Busy.{Busy}
use Rattle.update_flight.specs.declared.table_edit.Edit.{Edit}
use Rattle.update_flight.specs.Interleaving.{PassOver}
use Rattle.update_flight.specs.Transition.{answer_of, is_before_switch}
use Rattle.update_plan.specs.UpdateStateTerms.{tables_between}
use Rattle.run_commands.specs.Admission.{Admission, EndsEarly, Admitted}
use Rattle.update_driver.specs.declared.seat.Seat.{Seat}
use Rattle.update_driver.specs.declared.seat.Seat.TheVariants as seats
use Rattle.update_driver.specs.Moving.{Happening, Moving, Sides, after_entering, as_in_flight, coming_by, doing, editing, happening, side_of, stepping, happenings_of_edit}
use Rattle.update_commands.specs.WholeUpdate.{comes_early, happened_to}
use Rattle.update_commands.proofs.Entered.{times}
use Rattle.update_commands.proofs.Tracking.{IsThrough}
use Rattle.update_commands.proofs.PacketsToCome.{StaysPut, ToldBy, early_stay, early_turn, edit_before, edit_behind, entry_by, mine_early, mine_told, put_event, told_later}

module _ (old new : Network) (pass : PassOver (tables_between old new) (added_entries old new) (removed_entries old new)) (sides : Sides)
    (at : ℕ) (body : Body) where
  abbrev number : ℕ
  number = suc at

  -- ---- the switch, and other packets

  before_come : (m : Moving) (i : ℕ) (e : Admission)
      → is_before_switch (coming_by i m e).after.update.transition ≡ is_before_switch m.update.transition
  before_come m i (EndsEarly stays) = refl
  before_come m i (Admitted comes) = refl

  before_step : (m : Moving) (i : ℕ) (o : Option Seat)
      → is_before_switch (stepping sides i m o).after.update.transition ≡ is_before_switch m.update.transition
  before_step m i None = refl
  before_step m i (Some (seats.ToCome other)) = before_come m i (side_of sides m.update other)
  before_step m i (Some (seats.Entered j)) = refl
  before_step m i (Some seats.Gone) = refl

  early_come : (m : Moving) (i : ℕ) (e : Admission) (more : List Happening) → suc i ≢ number
      → comes_early number ((coming_by i m e).happens ++ more) ≡ comes_early number more
  early_come m i (EndsEarly stays) more apart = early_stay number (suc i) stays more apart
  early_come m i (Admitted comes) more apart = early_turn number (suc i) (after_entering i (as_in_flight comes) m).update _ more apart

  early_step : (m : Moving) (i : ℕ) (o : Option Seat) (more : List Happening) → suc i ≢ number
      → comes_early number ((stepping sides i m o).happens ++ more) ≡ comes_early number more
  early_step m i None more apart = refl
  early_step m i (Some (seats.ToCome other)) more apart = early_come m i (side_of sides m.update other) more apart
  early_step m i (Some (seats.Entered j)) more apart = early_turn number (suc i) m.update _ more apart
  early_step m i (Some seats.Gone) more apart = refl

  -- ---- what is told of the packet, by whether it comes early

  abbrev pub IsOwn : Bool → List Happening → Type 0
  IsOwn early told = ToldBy old new pass sides at early told (entry_by old new pass sides at body early)

  move_own : (one other : Bool) (told more : List Happening) → one ≡ other → told ≡ more → IsOwn other more → IsOwn one told
  move_own one other told more e f h =
      subst (λ (b : Bool). IsOwn b told) (sym e) (subst (λ (xs : List Happening). IsOwn other xs) (sym f) h)

  abbrev IsToCome : Moving → Type 0
  IsToCome m = IsThrough old new m × (slice_get m.seats at ≡ Some (seats.ToCome body))

  mine_own : (events : List ℕ) (m : Moving) → IsToCome m → (e : ℕ) → nat_eq e number ≡ true → MAX_STAGES ≤ times number (e ∷ events)
      → IsOwn (is_before_switch m.update.transition) (happened_to number (happening sides m (e ∷ events)))
  mine_own events m come e is enough =
      let same : e ≡ number = eqb-true e number is in
      let most : MAX_STAGES ≤ times number (number ∷ events) = subst (λ (x : ℕ). MAX_STAGES ≤ times number (x ∷ events)) same enough in
      subst (λ (x : ℕ). IsOwn (is_before_switch m.update.transition) (happened_to number (happening sides m (x ∷ events)))) (sym same)
      (mine_told old new pass sides at body m come.0 come.1 events most)

  -- so many events are left of those that name it
  left_over : (e : ℕ) (events : List ℕ) → nat_eq e number ≡ false → MAX_STAGES ≤ times number (e ∷ events)
      → MAX_STAGES ≤ times number events
  left_over e events is enough =
      subst (λ (b : Bool). MAX_STAGES ≤ (if b then suc (times number events) else times number events)) is enough

  -- behind the switch it is one of the new description
  late_own : (events : List ℕ) (m : Moving) → IsToCome m → is_before_switch m.update.transition ≡ false → MAX_STAGES ≤ times number events
      → IsOwn false (happened_to number (happening sides m events))
  late_own [] m come behind enough = absurd (omega (arith, enough))
  late_own (e ∷ events) m come behind enough =
      by (λ n come behind enough. late_own events n come behind enough) e (nat_eq e number) refl enough
    where
      -- what the later events tell
      Later : Type 0
      Later = (n : Moving) → IsToCome n → is_before_switch n.update.transition ≡ false → MAX_STAGES ≤ times number events
          → IsOwn false (happened_to number (happening sides n events))

      still : (x : ℕ) → is_before_switch (doing sides x m).after.update.transition ≡ false
      still zero = edit_behind m.update.transition behind
      still (suc i) = before_step m i (slice_get m.seats i) ∙ behind

      by : Later → (x : ℕ) (b : Bool) → nat_eq x number ≡ b → MAX_STAGES ≤ times number (x ∷ events)
          → IsOwn false (happened_to number (happening sides m (x ∷ events)))
      by later x true is most =
          subst (λ (early : Bool). IsOwn early (happened_to number (happening sides m (x ∷ events)))) behind (mine_own events m come x is most)
      by later x false is most =
          let put = put_event old new pass sides at (seats.ToCome body) m come.0 come.1 x (eqb-false x number is) in
          move_own false false _ _ refl (told_later old new pass sides at (seats.ToCome body) (doing sides x m) events put)
          (later (doing sides x m).after (put.through, put.there) (still x) (left_over x events is most))

  -- before it, it is as it comes
  pub early_own : (events : List ℕ) (m : Moving) → IsToCome m → is_before_switch m.update.transition ≡ true
      → MAX_STAGES ≤ times number events
      → IsOwn (comes_early number (happening sides m events)) (happened_to number (happening sides m events))
  early_own [] m come before enough = absurd (omega (arith, enough))
  early_own (e ∷ events) m come before enough =
      by (λ n come before enough. early_own events n come before enough) e (nat_eq e number) refl enough
    where
      -- what the later events tell
      Later : Type 0
      Later = (n : Moving) → IsToCome n → is_before_switch n.update.transition ≡ true → MAX_STAGES ≤ times number events
          → IsOwn (comes_early number (happening sides n events)) (happened_to number (happening sides n events))

      put_by : (x : ℕ) → nat_eq x number ≡ false → StaysPut old new pass sides at (seats.ToCome body) (doing sides x m)
      put_by x is = put_event old new pass sides at (seats.ToCome body) m come.0 come.1 x (eqb-false x number is)

      told_x : (x : ℕ) → nat_eq x number ≡ false
          → happened_to number (happening sides m (x ∷ events)) ≡ happened_to number (happening sides (doing sides x m).after events)
      told_x x is = told_later old new pass sides at (seats.ToCome body) (doing sides x m) events (put_by x is)

      rest : List Happening
      rest = happening sides (editing m).after events

      edit_comes : (answer : Result Edit Busy) → answer_of m.update.transition ≡ answer
          → comes_early number (happening sides m (0 ∷ events)) ≡ comes_early number (happenings_of_edit m.numbers answer ++ rest)
      edit_comes answer is = ap (λ (r : Result Edit Busy). comes_early number (happenings_of_edit m.numbers r ++ rest)) is

      by : Later → (x : ℕ) (b : Bool) → nat_eq x number ≡ b → MAX_STAGES ≤ times number (x ∷ events)
          → IsOwn (comes_early number (happening sides m (x ∷ events))) (happened_to number (happening sides m (x ∷ events)))
      by later x true is most =
          let same : x ≡ number = eqb-true x number is in
          let at_once : comes_early number (happening sides m (x ∷ events)) ≡ true =
          ap (λ (y : ℕ). comes_early number (happening sides m (y ∷ events))) same
          ∙ mine_early old new pass sides at body m come.0 come.1 events in
          subst (λ (early : Bool). IsOwn early (happened_to number (happening sides m (x ∷ events)))) (before ∙ sym at_once)
          (mine_own events m come x is most)
      by later (suc i) false is most =
          let put = put_by (suc i) is in
          move_own _ _ _ _ (early_step m i (slice_get m.seats i) (happening sides (doing sides (suc i) m).after events)
          (eqb-false (suc i) number is))
          (told_x (suc i) is)
          (later (doing sides (suc i) m).after (put.through, put.there)
          (before_step m i (slice_get m.seats i) ∙ before) (left_over (suc i) events is most))
      by later zero false is most =
          let put = put_by 0 is in
          elim (edit_before m.update.transition before) [
            | inl adds ↦ move_own _ _ _ _ (edit_comes _ adds.answer) (told_x 0 is)
                (later (editing m).after (put.through, put.there) adds.still (left_over 0 events is most))
            | inr switches ↦ move_own _ false _ _ (edit_comes _ switches.answer) (told_x 0 is)
                (late_own events (editing m).after (put.through, put.there) switches.now (left_over 0 events is most))
          ]
