use Rattle.std.proofs.Common.{refl}
use Rattle.srv6_rules.proofs.encapsulation_laws.pushed_packet_has_its_first_segment_active.Goals as goal

pub returns-clause-active : goal.returns-clause-active
returns-clause-active c = λ e inner hop. refl

pub returns-clause-destination : goal.returns-clause-destination
returns-clause-destination c = λ e inner hop. refl
