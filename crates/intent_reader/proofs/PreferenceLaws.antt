-- What the SIDs of a list cost by a preference.
use Rattle.std.proofs.Common.{◌≤◌, arith}
use Rattle.net_syntax.specs.declared.intent_table.Prefer.{Prefer}
use Rattle.net_syntax.specs.declared.intent_table.Prefer.TheVariants as prefers
use Rattle.net_syntax.specs.Preferring.{sid_cost_of}

-- a SID costs at most one
pub sid_costs_few : (p : Prefer) → sid_cost_of p ≤ 1
sid_costs_few prefers.Need = omega arith
sid_costs_few prefers.Sids = omega arith
