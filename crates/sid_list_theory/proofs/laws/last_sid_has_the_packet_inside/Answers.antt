use Rattle.sid_list_theory.proofs.Alongs.{along_exposed, along_last}
use Rattle.sid_list_theory.proofs.laws.last_sid_has_the_packet_inside.Goals as goal

pub returns : goal.returns
returns c = record { exposed = along_exposed; either = along_last }
