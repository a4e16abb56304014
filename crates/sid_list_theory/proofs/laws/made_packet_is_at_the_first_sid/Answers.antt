use Rattle.sid_list_theory.proofs.SidListStarts.{starts_first}
use Rattle.sid_list_theory.proofs.laws.made_packet_is_at_the_first_sid.Goals as goal

pub returns : goal.returns
returns c = starts_first
