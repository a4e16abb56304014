use Rattle.srv6_rules.proofs.EndpointSteps.{at_sid_moves}
use Rattle.srv6_rules.proofs.header_laws.packed_segments_are_moved_on_in.Goals as goal

pub returns : goal.returns
returns c = at_sid_moves
