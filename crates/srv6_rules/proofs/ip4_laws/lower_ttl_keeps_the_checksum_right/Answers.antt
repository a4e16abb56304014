use Rattle.srv6_rules.proofs.TimesToLive.{lowered4_checksum, lowered4_other, lowered4_spellable, lowered4_sum, lowered4_verifies, ttl_lowered_front, ttl_lowered_length, ttl_lowered_ttl}
use Rattle.srv6_rules.proofs.ip4_laws.lower_ttl_keeps_the_checksum_right.Goals as goal

pub returns-clause-ttl : goal.returns-clause-ttl
returns-clause-ttl c p long = ttl_lowered_ttl p.header long

pub returns-clause-checksum : goal.returns-clause-checksum
returns-clause-checksum c = lowered4_checksum

pub returns-clause-others : goal.returns-clause-others
returns-clause-others c = lowered4_other

pub returns-clause-length : goal.returns-clause-length
returns-clause-length c p long = ttl_lowered_length p.header long

pub returns-clause-bytes : goal.returns-clause-bytes
returns-clause-bytes c = ttl_lowered_front

pub returns-clause-spellable : goal.returns-clause-spellable
returns-clause-spellable c = lowered4_spellable

pub returns-clause-sum : goal.returns-clause-sum
returns-clause-sum c = lowered4_sum

pub returns-clause-verifies : goal.returns-clause-verifies
returns-clause-verifies c = lowered4_verifies
