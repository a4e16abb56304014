-- What the preference of an intent makes of a list's SIDs.
use Rattle.std.specs.Prelude.{ℕ}
use Rattle.net_syntax.specs.declared.intent_table.Prefer.{Prefer}
use Rattle.net_syntax.specs.declared.intent_table.Prefer.TheVariants as prefers

-- what each SID of a list costs, compared behind the containers and before the need: nothing where the least need is preferred
abbrev pub sid_cost_of : Prefer → ℕ
sid_cost_of prefers.Need = 0
sid_cost_of prefers.Sids = 1
