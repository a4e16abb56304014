-- Tables of a network that pass from an old description to a new one while packets are on their way.
use Rattle.std.specs.Prelude.{◌≢◌, Bool}
use Rattle.srv6_rules.specs.declared.reason.Reason.TheVariants as reasons
use Rattle.walk_rules.specs.declared.place.Outcome.TheVariants as outcomes
use Rattle.walk_rules.specs.Walk.{Stage}

-- the stage is no drop for want of a route
abbrev pub HasRoute : Stage → Type 0
HasRoute s = (told : Bool) → s.gave.outcome ≢ outcomes.Drop reasons.NoRoute told
