use Rattle.leg_table.proofs.TraceMeetings.{handed_trace}
use Rattle.leg_table.proofs.laws.what_is_handed_over_has_its_trace.Goals as goal

pub returns : goal.returns
returns c = handed_trace
