use Rattle.std.proofs.Common.{refl}
use Rattle.srv6_rules.specs.Packet.{spelling}
use Rattle.srv6_rules.specs.Encapsulation.{inner_lowered}
use Rattle.srv6_rules.proofs.PacketPackets.{content_of_spelling_alone}
use Rattle.srv6_rules.proofs.EncapsulatedSteps.{at_segment_exposed}
use Rattle.srv6_rules.proofs.EncapsulationForms.{encapsulated_spellable, length_encapsulated, lowered_spellable, lowered_spelling}
use Rattle.srv6_rules.proofs.encapsulation_laws.encapsulation_lowers_and_keeps_the_packet.Goals as goal

pub returns-clause-lowered : goal.returns-clause-lowered
returns-clause-lowered c = lowered_spelling

pub returns-clause-inner : goal.returns-clause-inner
returns-clause-inner c = lowered_spellable

pub returns-clause-pushed : goal.returns-clause-pushed
returns-clause-pushed c = λ e p hop. refl

pub returns-clause-length : goal.returns-clause-length
returns-clause-length c = length_encapsulated

pub returns-clause-spellable : goal.returns-clause-spellable
returns-clause-spellable c = encapsulated_spellable

pub returns-clause-exposed : goal.returns-clause-exposed
returns-clause-exposed c = λ s plain allow e p. at_segment_exposed s plain allow e (spelling (inner_lowered p))

pub returns-clause-reads : goal.returns-clause-reads
returns-clause-reads c = λ p ok. content_of_spelling_alone (inner_lowered p) (lowered_spellable p ok)
