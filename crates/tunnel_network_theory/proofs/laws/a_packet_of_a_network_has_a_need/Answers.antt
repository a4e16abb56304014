use Rattle.tunnel_network_theory.proofs.Forms.{look_shows, hands_need}
use Rattle.tunnel_network_theory.proofs.laws.a_packet_of_a_network_has_a_need.Goals as goal

pub returns-clause-shows : goal.returns-clause-shows
returns-clause-shows c = look_shows

pub returns-clause-need : goal.returns-clause-need
returns-clause-need c = hands_need
