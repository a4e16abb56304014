-- What the laws about traces say, in words.
use Rattle.std.specs.Prelude.{ℕ, List, [], ◌∷◌, ◌++◌, map, Option, Some, None}
use Rattle.net_model.specs.Network.{Network}
use Rattle.walk_rules.specs.declared.place.Place.{Place}
use Rattle.walk_rules.specs.Walk.{Stage, place_after}
use Rattle.trace_replay.specs.TraceLines.{stage_text, stages_text}

-- the lines of a walk's stages, and `stages` where the packet could go on after the last

abbrev pub stages_lines : Option Place → List (List ℕ)
stages_lines None = []
stages_lines (Some place) = stages_text ∷ []

abbrev pub walk_lines : Network → Option Place → List Stage → List (List ℕ)
walk_lines net place steps = map (λ (s : Stage). stage_text net s.gave) steps ++ stages_lines (place_after net place steps)
