-- What same stages have in common.
use Rattle.std.proofs.Common.{◌≡◌, ◌≢◌, ℕ, Bool, List, [], ◌∷◌, ◌++◌, All, slice_get, refl, ap}
use Rattle.std.proofs.lemmas.List.Elements.{All-cons, All-head, All-nil, All-tail}
use Rattle.srv6_rules.specs.declared.reason.Reason.TheVariants as reasons
use Rattle.net_model.specs.declared.net.Hit.{Hit}
use Rattle.net_model.specs.declared.net.Hit.TheVariants as hits
use Rattle.net_model.specs.declared.parts.Link.{Link}
use Rattle.net_model.specs.Network.{Network}
use Rattle.walk_rules.specs.declared.place.How.{How}
use Rattle.walk_rules.specs.declared.place.How.TheVariants.{Arrived, Submitted, Through}
use Rattle.walk_rules.specs.declared.place.Outcome.{Outcome}
use Rattle.walk_rules.specs.declared.place.Outcome.TheVariants as outcomes
use Rattle.walk_rules.specs.declared.place.Place.{Place}
use Rattle.walk_rules.specs.declared.place.Ended.TheVariants as ends
use Rattle.walk_rules.specs.Walk.{Stage, end_by, end_of, far_end, left_or_stages}
use Rattle.update_spec.specs.Lookups.{SameHit}
use Rattle.update_flight.specs.MomentTables.{HasRoute}
use Rattle.update_spec.specs.Alike.{SameHow, SameOutcome, SameSidAt, SameStage, SameStages}
use Rattle.update_walks_theory.specs.AlikeTerms.{LooksAs}
use Rattle.update_walks_theory.proofs.BetweenCases.{same_each}

module _ (a b : Network) where
  -- ---- a stage has a route where the other has

  outcome_route : (x y : Outcome) → SameOutcome a b x y → ((told : Bool) → y ≢ outcomes.Drop reasons.NoRoute told)
      → (told : Bool) → x ≢ outcomes.Drop reasons.NoRoute told
  outcome_route x y same =
      same_each a b (λ x y. ((told : Bool) → y ≢ outcomes.Drop reasons.NoRoute told) → (told : Bool)
      → x ≢ outcomes.Drop reasons.NoRoute told)
      (record {
        again = λ m n how on sid goes route told e. cc;
        hand = λ m n how on family sid goes route told e. cc;
        send = λ link route told e. route told e;
        local_ = λ route told e. route told e;
        drop_ = λ reason tells route told e. route told e;
      })
      x y same

  pub routes_same : (ss ts : List Stage) → SameStages a b ss ts → All HasRoute ts → All HasRoute ss
  routes_same [] [] same all = All-nil HasRoute
  routes_same [] (t ∷ ts) same all = absurd same
  routes_same (s ∷ ss) [] same all = absurd same
  routes_same (s ∷ ss) (t ∷ ts) same all =
      All-cons HasRoute s ss (outcome_route s.gave.outcome t.gave.outcome same.0.gave.outcome (All-head HasRoute t ts all))
      (routes_same ss ts same.1 (All-tail HasRoute t ts all))

  -- ---- stages that begin with a front

  pub record Split (ss first more : List Stage) : Type 0 where
    pub front : List Stage
    pub rest : List Stage
    pub is : ss ≡ front ++ rest
    pub same : SameStages a b front first
    pub later : SameStages a b rest more

  pub split_same : (ss first more : List Stage) → SameStages a b ss (first ++ more) → Split ss first more
  split_same ss [] more same = record { front = []; rest = ss; is = refl; same = tt; later = same }
  split_same [] (t ∷ first) more same = absurd same
  split_same (s ∷ ss) (t ∷ first) more same =
      let later = split_same ss first more same.1 in
      record {
        front = s ∷ later.front;
        rest = later.rest;
        is = ap (λ (xs : List Stage). s ∷ xs) later.is;
        same = (same.0, later.same);
        later = later.later;
      }

  -- ---- how they end

  module _ (looks : LooksAs a b) where
    end_by_same : (p q : Place) → p.node ≡ q.node → (x y : Outcome) → SameOutcome a b x y → end_by a p x ≡ end_by b q y
    end_by_same p q node x y same =
        same_each a b (λ x y. end_by a p x ≡ end_by b q y)
        (record {
          again = λ m n how on sid goes. refl;
          hand = λ m n how on family sid goes. refl;
          send = λ link. ap (λ (ls : List Link). left_or_stages link (far_end (slice_get ls link))) looks.links;
          local_ = ap (λ (n : ℕ). ends.Delivered n) node;
          drop_ = λ reason told. ap (λ (n : ℕ). ends.Dropped n reason) node;
        })
        x y same

    pub ends_same : (ss ts : List Stage) → SameStages a b ss ts → end_of a ss ≡ end_of b ts
    ends_same [] [] same = refl
    ends_same [] (t ∷ ts) same = absurd same
    ends_same (s ∷ ss) [] same = absurd same
    ends_same (s ∷ []) (t ∷ []) same =
        end_by_same s.place t.place same.0.place.node s.gave.outcome t.gave.outcome same.0.gave.outcome
    ends_same (s ∷ []) (t ∷ u ∷ ts) same = absurd same.1
    ends_same (s ∷ r ∷ ss) (t ∷ []) same = absurd same.1
    ends_same (s ∷ r ∷ ss) (t ∷ u ∷ ts) same = ends_same (r ∷ ss) (u ∷ ts) same.1

-- ---- what is hidden doesn't matter

module _ (a b : Network) (hidden : List Hit) where
  abbrev veiled : Network
  veiled = record a { hidden = hidden }

  sid_shown : (m n : ℕ) → SameSidAt veiled b m n → SameSidAt a b m n
  sid_shown m n h = (
    h.0,
    h.1,
    h.2,
    h.3,
    record {
      node = h.4.node;
      prefix = h.4.prefix;
      behaviour = h.4.behaviour;
      csid = h.4.csid;
      block_len = h.4.block_len;
      psp = h.4.psp;
      usp = h.4.usp;
      usd = h.4.usd;
      links = h.4.links;
      title = h.4.title;
    },
  )

  -- and the other way round

  sid_veiled : (m n : ℕ) → SameSidAt a b m n → SameSidAt veiled b m n
  sid_veiled m n h = (
    h.0,
    h.1,
    h.2,
    h.3,
    record {
      node = h.4.node;
      prefix = h.4.prefix;
      behaviour = h.4.behaviour;
      csid = h.4.csid;
      block_len = h.4.block_len;
      psp = h.4.psp;
      usp = h.4.usp;
      usd = h.4.usd;
      links = h.4.links;
      title = h.4.title;
    },
  )

  pub hit_veiled : (h g : Hit) → SameHit a b h g → SameHit veiled b h g
  hit_veiled (hits.Sid m) (hits.Sid n) same = sid_veiled m n same
  hit_veiled (hits.Sid m) hits.Address same = absurd same
  hit_veiled (hits.Sid m) (hits.Route n) same = absurd same
  hit_veiled (hits.Sid m) hits.Nothing same = absurd same
  hit_veiled hits.Address (hits.Sid n) same = absurd same
  hit_veiled hits.Address hits.Address same = tt
  hit_veiled hits.Address (hits.Route n) same = absurd same
  hit_veiled hits.Address hits.Nothing same = absurd same
  hit_veiled (hits.Route m) (hits.Sid n) same = absurd same
  hit_veiled (hits.Route m) hits.Address same = absurd same
  hit_veiled (hits.Route m) (hits.Route n) same = same
  hit_veiled (hits.Route m) hits.Nothing same = absurd same
  hit_veiled hits.Nothing (hits.Sid n) same = absurd same
  hit_veiled hits.Nothing hits.Address same = absurd same
  hit_veiled hits.Nothing (hits.Route n) same = absurd same
  hit_veiled hits.Nothing hits.Nothing same = tt

  -- of outcomes and stages

  how_shown : (h k : How) → SameHow veiled b h k → SameHow a b h k
  how_shown (Arrived table) (Arrived other) same = same
  how_shown (Arrived table) (Submitted other) same = same
  how_shown (Arrived table) (Through n lower) same = same
  how_shown (Submitted table) (Arrived other) same = same
  how_shown (Submitted table) (Submitted other) same = same
  how_shown (Submitted table) (Through n lower) same = same
  how_shown (Through m lower) (Arrived other) same = same
  how_shown (Through m lower) (Submitted other) same = same
  how_shown (Through m lower) (Through n low) same = (sid_shown m n same.0, same.1)

  outcome_shown : (x y : Outcome) → SameOutcome veiled b x y → SameOutcome a b x y
  outcome_shown x y same =
      same_each veiled b (λ x y. SameOutcome a b x y)
      (record {
        again = λ m n how on sid goes. (sid_shown m n sid, how_shown how on goes);
        hand = λ m n how on family sid goes. (sid_shown m n sid, how_shown how on goes, refl);
        send = λ link. refl;
        local_ = tt;
        drop_ = λ reason told. (refl, refl);
      })
      x y same

  stage_shown : (s t : Stage) → SameStage veiled b s t → SameStage a b s t
  stage_shown s t same = record {
    place = record {
      node = same.place.node;
      how = how_shown s.place.how t.place.how same.place.how;
      family = same.place.family;
    };
    before = same.before;
    gave = record {
      outcome = outcome_shown s.gave.outcome t.gave.outcome same.gave.outcome;
      after = same.gave.after;
      error = same.gave.error;
    };
  }

  pub stages_shown : (ss ts : List Stage) → SameStages veiled b ss ts → SameStages a b ss ts
  stages_shown [] [] same = tt
  stages_shown [] (t ∷ ts) same = absurd same
  stages_shown (s ∷ ss) [] same = absurd same
  stages_shown (s ∷ ss) (t ∷ ts) same = (stage_shown s t same.0, stages_shown ss ts same.1)
