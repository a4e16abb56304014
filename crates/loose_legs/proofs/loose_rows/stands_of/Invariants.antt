use Rattle.std.proofs.Common.{◌≡◌, ◌+◌, Some}
use Rattle.loose_spec.specs.LooseSteps.{node_at}
use Rattle.loose_legs.specs.LooseTable.{AreStands}
use Rattle.loose_legs.proofs.loose_rows.stands_of.Given as goal

abbrev pub invariant-loop-step : goal.invariant-loop-step
invariant-loop-step l = record {
  stands : node_at l.net l.intent l.steps l.step-index ≡ Some l.node;
  are : AreStands l.net l.intent l.steps (l.step-index + 1) l.stands.items;
}
