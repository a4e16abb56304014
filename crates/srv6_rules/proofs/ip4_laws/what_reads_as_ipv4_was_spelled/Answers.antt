use Rattle.srv6_rules.proofs.Packets4.{reads4_spellable, reads4_spelled, spells4_value}
use Rattle.srv6_rules.proofs.ip4_laws.what_reads_as_ipv4_was_spelled.Goals as goal

pub returns-clause-spellable : goal.returns-clause-spellable
returns-clause-spellable c p bytes all e = reads4_spellable bytes p e all

pub returns-clause-front : goal.returns-clause-front
returns-clause-front c p bytes e = reads4_spelled bytes p e

pub returns-clause-value : goal.returns-clause-value
returns-clause-value c = spells4_value
