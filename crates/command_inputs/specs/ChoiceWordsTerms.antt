-- Need not be believed: helps proofs and other laws.
-- Terms beside those of `specs/ChoiceWords.antt`.
use Rattle.std.specs.Prelude.{ℕ, List, Option, Some, None}
use Rattle.std.specs.Global.{Vec}
use Rattle.command_inputs.specs.declared.choices.Picks as code
use Rattle.command_inputs.specs.ChoiceWords.{Picks}

-- 1 to 65,536 numbers from 1 on, joined by commas

abbrev pub items_of : Option (Vec ℕ) → Option (List ℕ)
items_of None = None
items_of (Some numbers) = Some numbers.items

-- as the code has them
abbrev pub picks_seen : Option code.Picks → Option Picks
picks_seen None = None
picks_seen (Some picks) = Some (record { choices = picks.choices.items; schedule = picks.schedule.items })
