use Rattle.std.proofs.Common.{length}
use Rattle.leg_table.proofs.transit_table.+reaches_of.Given as goal

abbrev pub decreases-reaches_of : goal.decreases-reaches_of
decreases-reaches_of l = length l.steps.now
