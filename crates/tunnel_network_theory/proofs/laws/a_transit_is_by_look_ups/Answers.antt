use Rattle.tunnel_network_theory.proofs.TransitWalks.{machine_transits}
use Rattle.tunnel_network_theory.proofs.laws.a_transit_is_by_look_ups.Goals as goal

pub returns : goal.returns
returns c = machine_transits
