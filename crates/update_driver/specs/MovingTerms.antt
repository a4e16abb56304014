-- Need not be believed: helps proofs and other laws.
-- Terms beside those of `specs/Moving.antt`.
use Rattle.std.specs.Prelude.{ℕ, ◌+◌, ◌≡◌, List, ◌++◌}
use Rattle.update_driver.specs.Moving.{Sides, Moving, happening}

-- what happens by events, one after the other

-- these events lead from one moment to another: what happens by them and any others is what happens by them, and then by the others
abbrev pub LeadsTo : Sides → List ℕ → Moving → Moving → Type 0
LeadsTo sides events old new = (more : List ℕ)
    → happening sides old (events ++ more) ≡ happening sides old events ++ happening sides new more

-- the same is to come of both, whatever the events are
abbrev pub GoAlike : Sides → Moving → Moving → Type 0
GoAlike sides one other = (events : List ℕ) → happening sides one events ≡ happening sides other events
