use Rattle.srv6_rules.proofs.PolicyLaws.{headend_low, headend_high, headend_only_low}
use Rattle.srv6_rules.proofs.policy_laws.headend_judges_the_inner_hop_limit_first.Goals as goal

pub returns-clause-refused : goal.returns-clause-refused
returns-clause-refused c policy inner hop lowered =
    (headend_only_low policy inner hop lowered, headend_low policy inner hop lowered)

pub returns-clause-pushed : goal.returns-clause-pushed
returns-clause-pushed c = headend_high
