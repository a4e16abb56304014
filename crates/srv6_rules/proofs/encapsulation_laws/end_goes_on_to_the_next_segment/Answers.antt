use Rattle.srv6_rules.proofs.EncapsulatedSteps.{at_segment_hop_limit, at_segment_onward, at_segment_psp}
use Rattle.srv6_rules.proofs.encapsulation_laws.end_goes_on_to_the_next_segment.Goals as goal

pub returns-clause-onward : goal.returns-clause-onward
returns-clause-onward c = at_segment_onward

pub returns-clause-hop_limit : goal.returns-clause-hop_limit
returns-clause-hop_limit c = at_segment_hop_limit

pub returns-clause-psp : goal.returns-clause-psp
returns-clause-psp c = at_segment_psp
