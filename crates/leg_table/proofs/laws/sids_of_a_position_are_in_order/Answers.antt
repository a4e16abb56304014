use Rattle.leg_table.proofs.StrictPositions.{are_sids}
use Rattle.leg_table.proofs.laws.sids_of_a_position_are_in_order.Goals as goal

pub returns : goal.returns
returns c = λ net intent position keeps. are_sids net keeps intent position
