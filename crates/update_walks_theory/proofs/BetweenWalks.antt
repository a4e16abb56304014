-- Walks in two networks that look up to equal entries take the same stages.
use Rattle.std.proofs.Common.{◌≡◌, ℕ, zero, suc, ◌+◌, List, [], ◌∷◌, Option, None, Some, slice_get, refl, sym, subst}
use Rattle.srv6_rules.specs.declared.family.Family.{Family}
use Rattle.srv6_rules.specs.Packet.{Content}
use Rattle.net_model.specs.declared.parts.Link.{Link}
use Rattle.net_model.specs.Network.{Network}
use Rattle.walk_rules.specs.declared.place.Outcome.{Outcome}
use Rattle.walk_rules.specs.declared.place.Outcome.TheVariants as outcomes
use Rattle.walk_rules.specs.declared.place.Place.{Place}
use Rattle.walk_rules.specs.Treatment.{Gave, step_of}
use Rattle.walk_rules.specs.Walk.{Stage, arrival, decisions, far_end, next_place, stage_of, walk_of}
use Rattle.walk_rules.specs.WalkTerms.{walk_on}
use Rattle.walk_rules.proofs.PublicLaws.{walk_of_none, walk_of_suc, walk_of_zero}
use Rattle.update_spec.specs.Alike.{SameGave, SameOutcome, SamePlace, SameStages}
use Rattle.update_walks_theory.specs.AlikeTerms.{LooksAs}
use Rattle.update_walks_theory.proofs.BetweenCases.{same_each}
use Rattle.update_walks_theory.proofs.BetweenSteps.{step_same}

module _ (a b : Network) (looks : LooksAs a b) where
  -- where packets go on, if they do
  abbrev GoOn : Option Place → Option Place → Type 0
  GoOn None None = Unit {0}
  GoOn None (Some q) = ⊥
  GoOn (Some p) None = ⊥
  GoOn (Some p) (Some q) = SamePlace a b p q

  arrive : (o : Option ℕ) (p q : Place) → p.family ≡ q.family → GoOn (arrival o p) (arrival o q)
  arrive None p q family = tt
  arrive (Some node) p q family = record { node = refl; how = refl; family = family }

  next_same : (p q : Place) → SamePlace a b p q → (x y : Outcome) → SameOutcome a b x y → GoOn (next_place a p x) (next_place b q y)
  next_same p q place x y same =
      same_each a b (λ x y. GoOn (next_place a p x) (next_place b q y))
      (record {
        again = λ m n how on sid goes. record { node = place.node; how = goes; family = place.family };
        hand = λ m n how on family sid goes. record { node = place.node; how = goes; family = refl };
        send = λ link. subst (λ (ls : List Link).
            GoOn (next_place a p (outcomes.Send link)) (arrival (far_end (slice_get ls link)) q)) looks.links
            (arrive (far_end (slice_get a.links link)) p q place.family);
        local_ = tt;
        drop_ = λ reason told. tt;
      })
      x y same

  taken_same : (x y : Outcome) → SameOutcome a b x y → decisions x ≡ decisions y
  taken_same x y same =
      same_each a b (λ x y. decisions x ≡ decisions y)
      (record {
        again = λ m n how on sid goes. refl;
        hand = λ m n how on family sid goes. refl;
        send = λ link. refl;
        local_ = refl;
        drop_ = λ reason told. refl;
      })
      x y same

  place_step : (p q : Place) (content : Content) (choice : ℕ) → SamePlace a b p q
      → SameGave a b (step_of a p content choice) (step_of b q content choice)
  place_step p q content choice place =
      subst (λ (n : ℕ). SameGave a b (step_of a p content choice)
      (step_of b (record { node = n; how = q.how; family = q.family }) content choice)) place.node
      (subst (λ (f : Family). SameGave a b (step_of a p content choice)
      (step_of b (record { node = p.node; how = q.how; family = f }) content choice)) place.family
      (step_same a b looks p.node p.how q.how p.family content choice place.how))

  pub walks_same : (fuel : ℕ) (p q : Option Place) (content : Content) (pick : ℕ → ℕ) (taken : ℕ) → GoOn p q
      → SameStages a b (walk_of fuel a p content pick taken) (walk_of fuel b q content pick taken)
  walks_same zero p q content pick taken same =
      subst (λ (ss : List Stage). SameStages a b ss (walk_of 0 b q content pick taken)) (sym (walk_of_zero a p content pick taken))
      (subst (λ (ts : List Stage). SameStages a b [] ts) (sym (walk_of_zero b q content pick taken)) tt)
  walks_same (suc fuel) None None content pick taken same =
      subst (λ (ss : List Stage). SameStages a b ss (walk_of (suc fuel) b None content pick taken))
      (sym (walk_of_none (suc fuel) a content pick taken))
      (subst (λ (ts : List Stage). SameStages a b [] ts) (sym (walk_of_none (suc fuel) b content pick taken)) tt)
  walks_same (suc fuel) None (Some q) content pick taken same = absurd same
  walks_same (suc fuel) (Some p) None content pick taken same = absurd same
  walks_same (suc fuel) (Some p) (Some q) content pick taken same =
      let x : Gave = step_of a p content (pick taken) in
      let y : Gave = step_of b q content (pick taken) in
      let gave : SameGave a b x y = place_step p q content (pick taken) same in
      let rest : SameStages a b (walk_of fuel a (next_place a p x.outcome) x.after pick (taken + decisions x.outcome))
      (walk_of fuel b (next_place b q y.outcome) x.after pick (taken + decisions x.outcome)) =
      walks_same fuel (next_place a p x.outcome) (next_place b q y.outcome) x.after pick (taken + decisions x.outcome)
      (next_same p q same x.outcome y.outcome gave.outcome) in
      let later : SameStages a b (walk_of fuel a (next_place a p x.outcome) x.after pick (taken + decisions x.outcome))
      (walk_of fuel b (next_place b q y.outcome) y.after pick (taken + decisions y.outcome)) =
      subst (λ (n : ℕ). SameStages a b (walk_of fuel a (next_place a p x.outcome) x.after pick (taken + decisions x.outcome))
      (walk_of fuel b (next_place b q y.outcome) y.after pick (taken + n))) (taken_same x.outcome y.outcome gave.outcome)
      (subst (λ (c : Content). SameStages a b (walk_of fuel a (next_place a p x.outcome) x.after pick (taken + decisions x.outcome))
      (walk_of fuel b (next_place b q y.outcome) c pick (taken + decisions x.outcome))) gave.after rest) in
      subst (λ (ss : List Stage). SameStages a b ss (walk_of (suc fuel) b (Some q) content pick taken))
      (sym (walk_of_suc fuel a p content pick taken))
      (subst (λ (ts : List Stage).
      SameStages a b (stage_of a p content (pick taken) ∷ walk_on fuel a (stage_of a p content (pick taken)) pick taken) ts)
      (sym (walk_of_suc fuel b q content pick taken))
      (record { place = same; before = refl; gave = gave }, later))

  pub places_same : (fuel : ℕ) (p q : Place) (content : Content) (pick : ℕ → ℕ) (taken : ℕ) → SamePlace a b p q
      → SameStages a b (walk_of fuel a (Some p) content pick taken) (walk_of fuel b (Some q) content pick taken)
  places_same fuel p q content pick taken same = walks_same fuel (Some p) (Some q) content pick taken same
