-- Need not be believed: helps proofs and other laws.
-- Terms beside those of `specs/Walk.antt`.
use Rattle.std.specs.Prelude.{◌≡◌, ℕ, ◌+◌, ◌<◌, ◌≤◌, List, [], ◌∷◌, length, Option, Some, None}
use Rattle.srv6_rules.specs.Packet.{Content}
use Rattle.net_model.specs.Network.{Network}
use Rattle.walk_rules.specs.declared.place.Place.{Place}
use Rattle.walk_rules.specs.Treatment.{step_of}
use Rattle.walk_rules.specs.Walk.{next_place, decisions, Stage, walk_of, place_after}

-- at most so many stages after a stage
abbrev pub walk_on : ℕ → Network → Stage → (ℕ → ℕ) → ℕ → List Stage
walk_on more net s pick taken =
    walk_of more net (next_place net s.place s.gave.outcome) s.gave.after pick (taken + decisions s.gave.outcome)

abbrev pub content_after : Content → List Stage → Content
content_after content [] = content
content_after content (s ∷ more) = content_after s.gave.after more

abbrev pub taken_after : ℕ → List Stage → ℕ
taken_after taken [] = taken
taken_after taken (s ∷ more) = taken_after (taken + decisions s.gave.outcome) more

-- a stage gives what the choice makes of its place and of what stood there
abbrev pub IsStageOf : Network → ℕ → Stage → Type 0
IsStageOf net choice s = s.gave ≡ step_of net s.place s.before choice

-- the second stage is where the first goes on, and has what it left
abbrev pub ComesNext : Network → Stage → Stage → Type 0
ComesNext net s t = (next_place net s.place s.gave.outcome ≡ Some t.place) × (t.before ≡ s.gave.after)

-- stages that follow one another, where pick gives the choice of each decision, and `taken` decisions were taken before
abbrev pub Follows : Network → (ℕ → ℕ) → ℕ → List Stage → Type 0
Follows net pick taken [] = Unit {0}
Follows net pick taken (s ∷ []) = IsStageOf net (pick taken) s
Follows net pick taken (s ∷ t ∷ more) =
    IsStageOf net (pick taken) s × ComesNext net s t × Follows net pick (taken + decisions s.gave.outcome) (t ∷ more)

-- the first stage, if there is one, is at this place, and has this content
abbrev pub BeginsAt : Option Place → Content → List Stage → Type 0
BeginsAt place content [] = Unit {0}
BeginsAt place content (s ∷ more) = (place ≡ Some s.place) × (s.before ≡ content)

-- a walk: stages that begin there and follow one another, so many at most, and fewer only where they ended
pub record IsWalk (fuel : ℕ) (net : Network) (place : Option Place) (content : Content) (pick : ℕ → ℕ) (taken : ℕ)
    (steps : List Stage) : Type 0 where
  pub begins : BeginsAt place content steps
  pub follows : Follows net pick taken steps
  pub at_most : length steps ≤ fuel
  pub ended : length steps < fuel → place_after net place steps ≡ None
