use Rattle.net_flatness.specs.Units.{AreFirstUnits}
use Rattle.net_flatness.proofs.nests.units_nested_in.Given as goal

abbrev pub invariant-loop-inner : goal.invariant-loop-inner
invariant-loop-inner l = AreFirstUnits l.sids l.outer l.inner-index l.units.items
