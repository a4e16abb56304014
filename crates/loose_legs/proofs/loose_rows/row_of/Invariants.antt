use Rattle.std.proofs.Common.{◌≡◌}
use Rattle.loose_spec.specs.LooseLegsValue.{sids_below}
use Rattle.loose_legs.proofs.loose_rows.row_of.Given as goal

abbrev pub invariant-loop-n : goal.invariant-loop-n
invariant-loop-n l = l.row.items ≡ sids_below l.net l.intent l.steps l.position l.n
