-- Walks in two networks that have equal entries at numbers of their own: their stages are the same but for the numbers of SIDs.
use Rattle.std.specs.Prelude.{◌≡◌, ℕ, List, [], ◌∷◌, ◌++◌}
use Rattle.net_model.specs.declared.net.Hit.TheVariants as hits
use Rattle.net_model.specs.Network.{Network}
use Rattle.walk_rules.specs.declared.place.How.{How}
use Rattle.walk_rules.specs.declared.place.How.TheVariants.{Arrived, Submitted, Through}
use Rattle.walk_rules.specs.declared.place.Outcome.{Outcome}
use Rattle.walk_rules.specs.declared.place.Outcome.TheVariants as outcomes
use Rattle.walk_rules.specs.declared.place.Place.{Place}
use Rattle.walk_rules.specs.Treatment.{Gave}
use Rattle.walk_rules.specs.Walk.{Stage}
use Rattle.update_spec.specs.Lookups.{SameHit}

-- SIDs of these numbers that are equal in all fields, titles by their texts
abbrev pub SameSidAt : Network → Network → ℕ → ℕ → Type 0
SameSidAt a b m n = SameHit a b (hits.Sid m) (hits.Sid n)

-- a packet is to be treated in the same way
abbrev pub SameHow : Network → Network → How → How → Type 0
SameHow a b (Arrived table) (Arrived other) = table ≡ other
SameHow a b (Arrived table) (Submitted other) = ⊥
SameHow a b (Arrived table) (Through n low) = ⊥
SameHow a b (Submitted table) (Arrived other) = ⊥
SameHow a b (Submitted table) (Submitted other) = table ≡ other
SameHow a b (Submitted table) (Through n low) = ⊥
SameHow a b (Through m lower) (Arrived other) = ⊥
SameHow a b (Through m lower) (Submitted other) = ⊥
SameHow a b (Through m lower) (Through n low) = SameSidAt a b m n × (lower ≡ low)

-- an outcome is the same: a SID that was executed is equal, and a packet goes over the same link
abbrev pub SameOutcome : Network → Network → Outcome → Outcome → Type 0
SameOutcome a b (outcomes.Again m how) (outcomes.Again n on) = SameSidAt a b m n × SameHow a b how on
SameOutcome a b (outcomes.Again m how) (outcomes.Hand n on other) = ⊥
SameOutcome a b (outcomes.Again m how) (outcomes.Send road) = ⊥
SameOutcome a b (outcomes.Again m how) outcomes.Local = ⊥
SameOutcome a b (outcomes.Again m how) (outcomes.Drop cause tells) = ⊥
SameOutcome a b (outcomes.Hand m how family) (outcomes.Again n on) = ⊥
SameOutcome a b (outcomes.Hand m how family) (outcomes.Hand n on other) = SameSidAt a b m n × SameHow a b how on × (family ≡ other)
SameOutcome a b (outcomes.Hand m how family) (outcomes.Send road) = ⊥
SameOutcome a b (outcomes.Hand m how family) outcomes.Local = ⊥
SameOutcome a b (outcomes.Hand m how family) (outcomes.Drop cause tells) = ⊥
SameOutcome a b (outcomes.Send link) (outcomes.Again n on) = ⊥
SameOutcome a b (outcomes.Send link) (outcomes.Hand n on other) = ⊥
SameOutcome a b (outcomes.Send link) (outcomes.Send road) = link ≡ road
SameOutcome a b (outcomes.Send link) outcomes.Local = ⊥
SameOutcome a b (outcomes.Send link) (outcomes.Drop cause tells) = ⊥
SameOutcome a b outcomes.Local (outcomes.Again n on) = ⊥
SameOutcome a b outcomes.Local (outcomes.Hand n on other) = ⊥
SameOutcome a b outcomes.Local (outcomes.Send road) = ⊥
SameOutcome a b outcomes.Local outcomes.Local = Unit {0}
SameOutcome a b outcomes.Local (outcomes.Drop cause tells) = ⊥
SameOutcome a b (outcomes.Drop reason told) (outcomes.Again n on) = ⊥
SameOutcome a b (outcomes.Drop reason told) (outcomes.Hand n on other) = ⊥
SameOutcome a b (outcomes.Drop reason told) (outcomes.Send road) = ⊥
SameOutcome a b (outcomes.Drop reason told) outcomes.Local = ⊥
SameOutcome a b (outcomes.Drop reason told) (outcomes.Drop cause tells) = (reason ≡ cause) × (told ≡ tells)

-- what a stage gives is the same: the packet after it and the error are, byte by byte
pub record SameGave (a b : Network) (x y : Gave) : Type 0 where
  pub outcome : SameOutcome a b x.outcome y.outcome
  pub after : x.after ≡ y.after
  pub error : x.error ≡ y.error

pub record SamePlace (a b : Network) (p q : Place) : Type 0 where
  pub node : p.node ≡ q.node
  pub how : SameHow a b p.how q.how
  pub family : p.family ≡ q.family

-- a stage is the same
pub record SameStage (a b : Network) (s t : Stage) : Type 0 where
  pub place : SamePlace a b s.place t.place
  pub before : s.before ≡ t.before
  pub gave : SameGave a b s.gave t.gave

-- stages are the same, one by one
abbrev pub SameStages : Network → Network → List Stage → List Stage → Type 0
SameStages a b [] [] = Unit {0}
SameStages a b [] (t ∷ ts) = ⊥
SameStages a b (s ∷ ss) [] = ⊥
SameStages a b (s ∷ ss) (t ∷ ts) = SameStage a b s t × SameStages a b ss ts

-- stages in the first network begin with those of the other
pub record BeginAs (a b : Network) (stages front : List Stage) : Type 0 where
  pub first : List Stage
  pub behind : List Stage
  pub split : stages ≡ first ++ behind
  pub same : SameStages a b first front
