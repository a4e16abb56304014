-- A way is there for all lists of choices exactly where it is there whatever is chosen at each stage.
use Rattle.std.proofs.Common.{◌≡◌, ℕ, zero, suc, ◌+◌, ◌<◌, ◌≤◌, Bool, List, [], ◌∷◌, length, Option, Some, None, IsTrue, refl, ◌∙◌, ap, subst, arith, mod-eq_of_lt}
use Rattle.std.specs.Prelude.{◌↔◌, slice_index}
use Rattle.srv6_rules.specs.Packet.{Content}
use Rattle.net_model.specs.Network.{Network}
use Rattle.walk_rules.specs.declared.place.Place.{Place}
use Rattle.walk_rules.specs.declared.place.Outcome.{Outcome}
use Rattle.walk_rules.specs.declared.place.Outcome.TheVariants as outcomes
use Rattle.walk_rules.specs.Treatment.{free_step_of as step_of}
use Rattle.walk_rules.specs.Walk as walks
use Rattle.walk_rules.specs.Walk.{walk_by, free_walk_of as walk_of, next_place, choice_at, decisions}
use Rattle.intent_reader.specs.declared.intent.Step.{Step}
use Rattle.intent_reader.specs.declared.intent.Step.TheVariants.{Links, Function, Reach}
use Rattle.leg_table.specs.AllChoices.{Crosses, Goes, Ends, Transits, ForAllChoices, AtPlace, seen_at, EveryWay}

-- what follows of the rest follows of a stage
pub Crosses_map : (t : Step) (link : ℕ) {R Q : Type 0} → (R → Q) → Crosses t link R → Crosses t link Q
Crosses_map (Links set) link f (here, rest) = (here, f rest)
Crosses_map (Function sid) link f h = absurd h
Crosses_map (Reach node) link f h = absurd h

pub Goes_map : (o : Outcome) (t : Step) {R Q : Type 0} (E : Type 0) → (R → Q) → Goes o t R E → Goes o t Q E
Goes_map (outcomes.Send link) t E f h = Crosses_map t link f h
Goes_map (outcomes.Again n how) t E f h = h
Goes_map (outcomes.Hand n how family) t E f h = h
Goes_map outcomes.Local t E f h = absurd h
Goes_map (outcomes.Drop reason error) t E f h = absurd h

pub first_same : (a b : ℕ) (p q : ℕ → ℕ) → p (a + 0) ≡ q (b + 0) → p a ≡ q b
first_same a b p q e = ap p (omega arith) ∙ (e ∙ ap q (omega arith))

-- so many choices of a row, from one of them on
abbrev pub row_from : (ℕ → ℕ) → ℕ → ℕ → List ℕ
row_from pick i zero = []
row_from pick i (suc n) = pick i ∷ row_from pick (suc i) n

pub length_row_from : (pick : ℕ → ℕ) (i n : ℕ) → length (row_from pick i n) ≡ n
length_row_from pick i zero = refl
length_row_from pick i (suc n) = ap suc (length_row_from pick (suc i) n)

row_from_at : (pick : ℕ → ℕ) (i n k : ℕ) → k < n → slice_index (row_from pick i n) k ≡ pick (i + k)
row_from_at pick i zero k h = absurd (omega arith)
row_from_at pick i (suc n) zero h = ap pick (omega arith)
row_from_at pick i (suc n) (suc k) h = row_from_at pick (suc i) n k (omega arith) ∙ ap pick (omega arith)

pub row_agrees : (pick : ℕ → ℕ) (n d : ℕ) → d < n → choice_at (row_from pick 0 n) (0 + d) ≡ pick (0 + d)
row_agrees pick n d h =
    let len = length_row_from pick 0 n in
    let z : 0 + d ≡ d = omega arith in
    rw (z, len, mod-eq_of_lt h, row_from_at pick 0 n d h) (ap pick z)

module _ (net : Network) (end : List Step → walks.Stage → Bool) where
  -- a row of choices for every list of choices
  abbrev AllPicks : List Step → Place → Content → Type 0
  AllPicks ts place content = (pick : ℕ → ℕ) → (fuel : ℕ) × Transits end ts (walk_of fuel net (Some place) content pick 0)

  next_transits : (ts : List Step) (more : ℕ) (o : Option Place) (after : Content) (pick : ℕ → ℕ) (taken : ℕ)
      → ((next : Place) → EveryWay net end ts next after → Transits end ts (walk_of (suc more) net (Some next) after pick taken))
      → AtPlace o (λ next. EveryWay net end ts next after) → Transits end ts (walk_of (suc more) net o after pick taken)
  next_transits ts more None after pick taken ih h = absurd h
  next_transits ts more (Some next) after pick taken ih h = ih next h

  -- as many stages as steps and one more are enough
  pub every_transits : (ts : List Step) (place : Place) (content : Content) (pick : ℕ → ℕ) (taken : ℕ) → EveryWay net end ts place content
      → Transits end ts (walk_of (suc (length ts)) net (Some place) content pick taken)
  unfolding walk_by
  every_transits [] place content pick taken every = every (pick taken)
  every_transits (t ∷ ts) place content pick taken every =
      let gave = step_of net place content (pick taken) in
      Goes_map gave.outcome t _
      (next_transits ts (length ts) (next_place net place gave.outcome) gave.after pick (taken + decisions gave.outcome)
      (λ next e. every_transits ts next gave.after pick (taken + decisions gave.outcome) e))
      (every (pick taken))

  goes_agree : (ts : List Step) (more : ℕ) (place : Place) (after : Content) (pick qick : ℕ → ℕ) (taken uaken : ℕ) (o : Outcome) (t : Step)
      → (E : Type 0)
      → ((next : Option Place)
      → Transits end ts (walk_of more net next after pick (taken + 1)) → Transits end ts (walk_of more net next after qick (uaken + 1)))
      → Goes o t (Transits end ts (walk_of more net (next_place net place o) after pick (taken + decisions o))) E
      → Goes o t (Transits end ts (walk_of more net (next_place net place o) after qick (uaken + decisions o))) E
  goes_agree ts more place after pick qick taken uaken (outcomes.Send link) t E ih h =
      Crosses_map t link (ih (next_place net place (outcomes.Send link))) h
  goes_agree ts more place after pick qick taken uaken (outcomes.Again n how) t E ih h = h
  goes_agree ts more place after pick qick taken uaken (outcomes.Hand n how family) t E ih h = h
  goes_agree ts more place after pick qick taken uaken outcomes.Local t E ih h = absurd h
  goes_agree ts more place after pick qick taken uaken (outcomes.Drop reason error) t E ih h = absurd h

  -- rows that agree for as many decisions as there are steps, and one more, give the same
  agree : (fuel : ℕ) (ts : List Step) (o : Option Place) (content : Content) (pick qick : ℕ → ℕ) (taken uaken : ℕ)
      → ((d : ℕ) → d ≤ length ts → pick (taken + d) ≡ qick (uaken + d))
      → Transits end ts (walk_of fuel net o content pick taken) → Transits end ts (walk_of fuel net o content qick uaken)
  unfolding walk_by
  agree zero [] o content pick qick taken uaken same h = absurd h
  agree zero (t ∷ ts) o content pick qick taken uaken same h = absurd h
  agree (suc more) [] None content pick qick taken uaken same h = absurd h
  agree (suc more) (t ∷ ts) None content pick qick taken uaken same h = absurd h
  agree (suc more) [] (Some place) content pick qick taken uaken same h =
      let at_first : pick taken ≡ qick uaken = first_same taken uaken pick qick (same 0 (omega arith)) in
      subst (λ (c : ℕ). let gave = step_of net place content c in Ends gave.outcome (IsTrue (end [] (seen_at place content gave))))
      at_first h
  agree (suc more) (t ∷ ts) (Some place) content pick qick taken uaken same h =
      let at_first : pick taken ≡ qick uaken = first_same taken uaken pick qick (same 0 (omega arith)) in
      let gave = step_of net place content (pick taken) in
      subst
      (λ (c : ℕ). let gave = step_of net place content c in
      Goes gave.outcome t
      (Transits end ts (walk_of more net (next_place net place gave.outcome) gave.after qick (uaken + decisions gave.outcome)))
      (IsTrue (end (t ∷ ts) (seen_at place content gave))))
      at_first
      (goes_agree ts more place gave.after pick qick taken uaken gave.outcome t _
      (λ next r. agree more ts next gave.after pick qick (taken + 1) (uaken + 1) (later taken uaken pick qick same) r)
      h)
    where
      later : (a b : ℕ) (p q : ℕ → ℕ) → ((d : ℕ) → d ≤ suc (length ts) → p (a + d) ≡ q (b + d))
          → (d : ℕ) → d ≤ length ts → p (a + 1 + d) ≡ q (b + 1 + d)
      later a b p q same d h = ap p (omega arith) ∙ (same (suc d) (omega arith) ∙ ap q (omega arith))

  abbrev pub then_row : ℕ → (ℕ → ℕ) → ℕ → ℕ
  then_row x pick zero = x
  then_row x pick (suc d) = pick d

  pub then_row_later : (x : ℕ) (pick : ℕ → ℕ) (d : ℕ) → then_row x pick (0 + 1 + d) ≡ pick (0 + d)
  then_row_later x pick d =
      let e : 0 + 1 + d ≡ suc d = omega arith in
      let f : 0 + d ≡ d = omega arith in
      rw (e, f) refl

  next_every : (ts : List Step) (after : Content) (choice : ℕ) (o : Option Place)
      → ((pick : ℕ → ℕ) → pick 0 ≡ choice → (fuel : ℕ) × Transits end ts (walk_of fuel net o after pick (0 + 1)))
      → ((next : Place) → AllPicks ts next after → EveryWay net end ts next after)
      → AtPlace o (λ next. EveryWay net end ts next after)
  unfolding walk_by
  next_every ts after choice None all ih = let (fuel, r) = all (λ _. choice) refl in none fuel ts r
    where
      none : (fuel : ℕ) (ts : List Step) → Transits end ts (walk_of fuel net None after (λ _. choice) (0 + 1)) → ⊥
      none zero [] r = r
      none zero (t ∷ ts) r = r
      none (suc more) [] r = r
      none (suc more) (t ∷ ts) r = r
  next_every ts after choice (Some next) all ih =
      ih next (λ pick. let (fuel, r) = all (then_row choice pick) refl in
      (fuel, agree fuel ts (Some next) after (then_row choice pick) pick (0 + 1) 0 (λ d h. then_row_later choice pick d) r))

  every_from : (ts : List Step) (place : Place) (after : Content) (choice : ℕ) (o : Outcome) (t : Step) (E : Type 0)
      → ((pick : ℕ → ℕ) → pick 0 ≡ choice
      → (fuel : ℕ) × Goes o t (Transits end ts (walk_of fuel net (next_place net place o) after pick (0 + decisions o))) E)
      → ((next : Place) → AllPicks ts next after → EveryWay net end ts next after)
      → Goes o t (AtPlace (next_place net place o) (λ next. EveryWay net end ts next after)) E
  every_from ts place after choice (outcomes.Send link) (Links set) E all ih =
      let first = all (λ _. choice) refl in (
        first.1.0,
        next_every ts after choice (next_place net place (outcomes.Send link))
            (λ pick e. let got = all pick e in (got.0, got.1.1)) ih,
      )
  every_from ts place after choice (outcomes.Send link) (Function sid) E all ih = let first = all (λ _. choice) refl in absurd first.1
  every_from ts place after choice (outcomes.Send link) (Reach node) E all ih = let first = all (λ _. choice) refl in absurd first.1
  every_from ts place after choice (outcomes.Again n how) t E all ih = let first = all (λ _. choice) refl in first.1
  every_from ts place after choice (outcomes.Hand n how family) t E all ih = let first = all (λ _. choice) refl in first.1
  every_from ts place after choice outcomes.Local t E all ih = let first = all (λ _. choice) refl in absurd first.1
  every_from ts place after choice (outcomes.Drop reason error) t E all ih = let first = all (λ _. choice) refl in absurd first.1

  first_end : (place : Place) (content : Content) (pick : ℕ → ℕ) (choice fuel : ℕ) → pick 0 ≡ choice
      → Transits end [] (walk_of fuel net (Some place) content pick 0)
      → let gave = step_of net place content choice in Ends gave.outcome (IsTrue (end [] (seen_at place content gave)))
  unfolding walk_by
  first_end place content pick choice zero e r = absurd r
  first_end place content pick choice (suc more) e r =
      subst (λ (c : ℕ). let gave = step_of net place content c in Ends gave.outcome (IsTrue (end [] (seen_at place content gave)))) e r

  first_goes : (t : Step) (ts : List Step) (place : Place) (content : Content) (pick : ℕ → ℕ) (choice fuel : ℕ) → pick 0 ≡ choice
      → Transits end (t ∷ ts) (walk_of fuel net (Some place) content pick 0)
      → let gave = step_of net place content choice in
      (more : ℕ) × Goes gave.outcome t
      (Transits end ts (walk_of more net (next_place net place gave.outcome) gave.after pick (0 + decisions gave.outcome)))
      (IsTrue (end (t ∷ ts) (seen_at place content gave)))
  unfolding walk_by
  first_goes t ts place content pick choice zero e r = absurd r
  first_goes t ts place content pick choice (suc more) e r = (
    more,
    subst
        (λ (c : ℕ). let gave = step_of net place content c in
        Goes gave.outcome t
        (Transits end ts (walk_of more net (next_place net place gave.outcome) gave.after pick (0 + decisions gave.outcome)))
        (IsTrue (end (t ∷ ts) (seen_at place content gave))))
        e r,
  )

  all_every : (ts : List Step) (place : Place) (content : Content) → AllPicks ts place content → EveryWay net end ts place content
  all_every [] place content all =
      λ choice. let got = all (λ _. choice) in first_end place content (λ _. choice) choice got.0 refl got.1
  all_every (t ∷ ts) place content all =
      λ choice. let gave = step_of net place content choice in
      every_from ts place gave.after choice gave.outcome t _
      (λ pick e. let got = all pick in first_goes t ts place content pick choice got.0 e got.1)
      (λ next rest. all_every ts next gave.after rest)

  choices_picks : (ts : List Step) (place : Place) (content : Content) → ForAllChoices net end ts place content → AllPicks ts place content
  choices_picks ts place content all =
      λ pick.
      let n = suc (length ts) in
      let some : 0 < length (row_from pick 0 n) = rw (length_row_from pick 0 n) (omega arith) in
      let got = all (row_from pick 0 n) some in
      (got.0, agree got.0 ts (Some place) content (choice_at (row_from pick 0 n)) pick 0 0 (λ d h. row_agrees pick n d (omega arith)) got.1)

  pub choices_every : (ts : List Step) (place : Place) (content : Content)
      → ForAllChoices net end ts place content ↔ EveryWay net end ts place content
  choices_every ts place content = (
    λ all. all_every ts place content (choices_picks ts place content all),
    λ every choices some. (suc (length ts), every_transits ts place content (choice_at choices) 0 every),
  )
