use Rattle.srv6_rules.proofs.PacketReached.{over_goes_on}
use Rattle.srv6_rules.proofs.header_laws.outcome_goes_on.Goals as goal

pub returns : goal.returns
returns c = over_goes_on
