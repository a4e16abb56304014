use Rattle.srv6_rules.proofs.EncapsulatedSteps.{at_segment_bad_segments}
use Rattle.srv6_rules.proofs.encapsulation_laws.decapsulation_is_at_the_last_segment.Goals as goal

pub returns : goal.returns
returns c = at_segment_bad_segments
