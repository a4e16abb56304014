use Rattle.srv6_rules.proofs.ErrorLaws.{kind_of_fits, error_spellable, error_verifies}
use Rattle.srv6_rules.proofs.icmp.errors_verify.Goals as goal

pub returns-clause-kind : goal.returns-clause-kind
returns-clause-kind c = kind_of_fits

pub returns-clause-spellable : goal.returns-clause-spellable
returns-clause-spellable c = error_spellable

pub returns-clause-checksum : goal.returns-clause-checksum
returns-clause-checksum c = error_verifies
