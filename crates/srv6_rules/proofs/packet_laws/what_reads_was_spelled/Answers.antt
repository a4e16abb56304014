use Rattle.srv6_rules.proofs.PacketPackets.{packet_at_spellable, reads_spellable, reads_spelled, reads_spelling}
use Rattle.srv6_rules.proofs.packet_laws.what_reads_was_spelled.Goals as goal

pub returns-clause-spellable : goal.returns-clause-spellable
returns-clause-spellable c = λ p bytes all e. reads_spellable bytes p all e

pub returns-clause-front : goal.returns-clause-front
returns-clause-front c = λ p bytes all e. reads_spelled bytes p all e

pub returns-clause-whole : goal.returns-clause-whole
returns-clause-whole c = λ p bytes all e short. reads_spelling bytes p all e short

pub returns-clause-whole_bytes : goal.returns-clause-whole_bytes
returns-clause-whole_bytes c = packet_at_spellable
