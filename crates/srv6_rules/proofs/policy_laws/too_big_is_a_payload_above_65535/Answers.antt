use Rattle.srv6_rules.proofs.PolicyLaws.{by_fits, by_big, by_only_big}
use Rattle.srv6_rules.proofs.policy_laws.too_big_is_a_payload_above_65535.Goals as goal

pub returns-clause-too_big : goal.returns-clause-too_big
returns-clause-too_big c policy reduced inner bytes n =
    (by_only_big policy reduced inner bytes n, λ h. by_big policy reduced inner bytes n h.0 h.1)

pub returns-clause-made : goal.returns-clause-made
returns-clause-made c = by_fits
