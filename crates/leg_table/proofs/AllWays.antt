-- What is handed over under every row of choices has a way, whatever is chosen.
use Rattle.std.proofs.Common.{◌≡◌, ℕ, zero, suc, ◌+◌, Bool, true, List, [], ◌∷◌, Option, Some, None, IsTrue, refl, sym, ◌∙◌, ap, subst}
use Rattle.std.proofs.lemmas.Bool.{false≢true, and_parts}
use Rattle.srv6_rules.specs.Packet.{Content}
use Rattle.net_model.specs.Network.{Network}
use Rattle.walk_rules.specs.declared.place.Place.{Place}
use Rattle.walk_rules.specs.declared.place.Outcome.{Outcome}
use Rattle.walk_rules.specs.declared.place.Outcome.TheVariants as outcomes
use Rattle.walk_rules.specs.Treatment.{Gave, free_step_of as step_of}
use Rattle.walk_rules.specs.Walk as walks
use Rattle.walk_rules.specs.Walk.{walk_by, free_walk_of as walk_of, next_place, decisions}
use Rattle.intent_reader.specs.declared.intent.Step.{Step}
use Rattle.intent_reader.specs.declared.intent.Step.TheVariants.{Links, Function, Reach}
use Rattle.leg_table.specs.WalkTrace.{Crossed, Handed, after_events, handed_first, handed_over}
use Rattle.leg_table.specs.StepMatching.{meets, matches}
use Rattle.leg_table.specs.AllChoices.{Crosses, Goes, Ends, AtPlace, EveryWay}
use Rattle.leg_table.proofs.StrictOptions.{map_some}
use Rattle.leg_table.proofs.StrictChoices.{then_row, then_row_later}
use Rattle.leg_table.proofs.StrictHanding.{handed_stage, walk_same}

abbrev pub yes : List Step → walks.Stage → Bool
yes ts s = true

module _ (net : Network) where
  -- under every row of choices a walk hands over, and its trace meets the steps
  abbrev pub Hands : Place → Content → List Step → Type 0
  Hands place content ts =
      (pick : ℕ → ℕ)
      → (fuel : ℕ) × (h : Handed) × (handed_over net (walk_of fuel net (Some place) content pick 0) ≡ Some h)
      × (matches ts h.trace ≡ true)

  -- what a first stage gives where a walk hands over
  abbrev First : Place → List Step → (ℕ → ℕ) → Gave → Type 0
  First place ts pick gave =
      (more : ℕ) × (h : Handed)
      × (handed_first net gave gave.outcome
      (handed_over net (walk_of more net (next_place net place gave.outcome) gave.after pick (0 + decisions gave.outcome))) ≡ Some h)
      × (matches ts h.trace ≡ true)

  first_of : (place : Place) (content : Content) (ts : List Step) (pick : ℕ → ℕ) (gave : Gave) → step_of net place content (pick 0) ≡ gave
      → Hands place content ts → First place ts pick gave
  unfolding walk_by
  first_of place content ts pick gave e hands =
      let got = hands pick in by_fuel got.0 got.1 got.2 got.3
    where
      by_fuel : (fuel : ℕ) (h : Handed) → handed_over net (walk_of fuel net (Some place) content pick 0) ≡ Some h
          → matches ts h.trace ≡ true → First place ts pick gave
      by_fuel zero h f m = absurd (cc)
      by_fuel (suc more) h f m = (more, h, sym (handed_stage net more place content pick 0 gave e) ∙ f, m)

  -- a walk whose first stage hands nothing over, nor leaves anything to hand over, does not hand over
  none_first : (place : Place) (ts : List Step) (pick : ℕ → ℕ) (gave : Gave) (o : Outcome) → gave.outcome ≡ o
      → ((later : Option Handed) → handed_first net gave o later ≡ None) → First place ts pick gave → ⊥
  none_first place ts pick gave o e none f =
      let k = subst (λ (o : Outcome). (later : Option Handed) → handed_first net gave o later ≡ None) (sym e) none in
      let rest = handed_over net (walk_of f.0 net (next_place net place gave.outcome) gave.after pick (0 + decisions gave.outcome)) in
      absurd (cc (k rest, f.2))

  -- a walk whose first stage sends hands over after it
  sent_first : (place : Place) (ts : List Step) (pick : ℕ → ℕ) (gave : Gave) (link : ℕ) → gave.outcome ≡ outcomes.Send link
      → First place ts pick gave
      → (more : ℕ) × (h : Handed)
      × (handed_over net (walk_of more net (next_place net place (outcomes.Send link)) gave.after pick (0 + 1)) ≡ Some h)
      × (matches ts (Crossed link ∷ h.trace) ≡ true)
  sent_first place ts pick gave link e f =
      let rest = λ (o : Outcome). handed_over net (walk_of f.0 net (next_place net place o) gave.after pick (0 + decisions o)) in
      let k = subst (λ (o : Outcome). handed_first net gave o (rest o) ≡ Some f.1) e f.2 in
      let got = map_some (after_events (Crossed link ∷ [])) (rest (outcomes.Send link)) f.1 k in
      (f.0, got.0, got.1, ap (λ (k : Handed). matches ts k.trace) got.2 ∙ f.3)

  walk_none : (fuel : ℕ) (content : Content) (pick : ℕ → ℕ) (taken : ℕ) (h : Handed)
      → handed_over net (walk_of fuel net None content pick taken) ≡ Some h → ⊥
  unfolding walk_by
  walk_none zero content pick taken h e = absurd (cc)
  walk_none (suc more) content pick taken h e = absurd (cc)

  ends_from : (place : Place) (pick : ℕ → ℕ) (gave : Gave) (o : Outcome) → gave.outcome ≡ o → First place [] pick gave
      → Ends o (IsTrue true)
  ends_from place pick gave (outcomes.Send link) e f = absurd (false≢true (sent_first place [] pick gave link e f).3)
  ends_from place pick gave (outcomes.Again n how) e f = refl
  ends_from place pick gave (outcomes.Hand n how family) e f = refl
  ends_from place pick gave outcomes.Local e f = none_first place [] pick gave outcomes.Local e (λ later. refl) f
  ends_from place pick gave (outcomes.Drop reason error) e f =
      none_first place [] pick gave (outcomes.Drop reason error) e (λ later. refl) f

  next_hands : (ts : List Step) (o : Option Place) (after : Content) (choice : ℕ)
      → ((pick : ℕ → ℕ) → pick 0 ≡ choice
      → (more : ℕ) × (h : Handed) × (handed_over net (walk_of more net o after pick (0 + 1)) ≡ Some h) × (matches ts h.trace ≡ true))
      → AtPlace o (λ next. Hands next after ts)
  next_hands ts None after choice all = let got = all (λ _. choice) refl in walk_none got.0 after (λ _. choice) (0 + 1) got.1 got.2
  next_hands ts (Some next) after choice all =
      λ pick. let got = all (then_row net yes choice pick) refl in (
        got.0,
        got.1,
        ap (handed_over net) (sym (walk_same net got.0 (Some next) after (then_row net yes choice pick) pick (0 + 1) 0
            (then_row_later net yes choice pick))) ∙ got.2,
        got.3,
      )

  AtPlace_map : (o : Option Place) (P Q : Place → Type 0) → ((next : Place) → P next → Q next) → AtPlace o P → AtPlace o Q
  AtPlace_map None P Q f h = absurd h
  AtPlace_map (Some next) P Q f h = f next h

  goes_from : (place : Place) (t : Step) (ts : List Step) (choice : ℕ) (gave : Gave) (o : Outcome) → gave.outcome ≡ o
      → ((pick : ℕ → ℕ) → pick 0 ≡ choice → First place (t ∷ ts) pick gave)
      → ((next : Place) → Hands next gave.after ts → EveryWay net yes ts next gave.after)
      → Goes o t (AtPlace (next_place net place o) (λ next. EveryWay net yes ts next gave.after)) (IsTrue true)
  goes_from place t ts choice gave (outcomes.Send link) e all ih = by_step t all
    where
      parts : (t : Step) (pick : ℕ → ℕ) → First place (t ∷ ts) pick gave
          → (meets t (Crossed link) ≡ true)
          × ((more : ℕ) × (h : Handed)
          × (handed_over net (walk_of more net (next_place net place (outcomes.Send link)) gave.after pick (0 + 1)) ≡ Some h)
          × (matches ts h.trace ≡ true))
      parts t pick f =
          let got = sent_first place (t ∷ ts) pick gave link e f in
          let both = and_parts (meets t (Crossed link)) (matches ts got.1.trace) got.3 in
          (both.0, (got.0, got.1, got.2, both.1))

      by_step : (t : Step) → ((pick : ℕ → ℕ) → pick 0 ≡ choice → First place (t ∷ ts) pick gave)
          → Crosses t link (AtPlace (next_place net place (outcomes.Send link)) (λ next. EveryWay net yes ts next gave.after))
      by_step (Function sid) all = false≢true (parts (Function sid) (λ _. choice) (all (λ _. choice) refl)).0
      by_step (Reach node) all = false≢true (parts (Reach node) (λ _. choice) (all (λ _. choice) refl)).0
      by_step (Links set) all =
          let next = next_place net place (outcomes.Send link) in
          let hands = next_hands ts next gave.after choice (λ pick k. (parts (Links set) pick (all pick k)).1) in (
            (parts (Links set) (λ _. choice) (all (λ _. choice) refl)).0,
            AtPlace_map next (λ next. Hands next gave.after ts) (λ next. EveryWay net yes ts next gave.after) ih hands,
          )
  goes_from place t ts choice gave (outcomes.Again n how) e all ih = refl
  goes_from place t ts choice gave (outcomes.Hand n how family) e all ih = refl
  goes_from place t ts choice gave outcomes.Local e all ih =
      none_first place (t ∷ ts) (λ _. choice) gave outcomes.Local e (λ later. refl) (all (λ _. choice) refl)
  goes_from place t ts choice gave (outcomes.Drop reason error) e all ih =
      none_first place (t ∷ ts) (λ _. choice) gave (outcomes.Drop reason error) e (λ later. refl) (all (λ _. choice) refl)

  -- such walks have a way, whatever is chosen
  pub hands_every : (ts : List Step) (place : Place) (content : Content) → Hands place content ts → EveryWay net yes ts place content
  hands_every [] place content hands =
      λ choice. let gave = step_of net place content choice in
      ends_from place (λ _. choice) gave gave.outcome refl (first_of place content [] (λ _. choice) gave refl hands)
  hands_every (t ∷ ts) place content hands =
      λ choice. let gave = step_of net place content choice in
      goes_from place t ts choice gave gave.outcome refl
      (λ pick e. first_of place content (t ∷ ts) pick gave (ap (step_of net place content) e) hands)
      (λ next rest. hands_every ts next gave.after rest)
