use Rattle.srv6_rules.proofs.PolicyLaws.{round_spellable}
use Rattle.srv6_rules.proofs.policy_laws.outer_packet_of_either_family_can_be_spelled.Goals as goal

pub returns : goal.returns
returns c = round_spellable
