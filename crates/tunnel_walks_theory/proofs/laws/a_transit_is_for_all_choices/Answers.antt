use Rattle.tunnel_walks_theory.proofs.TunnelPaths.{transit_all, transit_each}
use Rattle.tunnel_walks_theory.proofs.laws.a_transit_is_for_all_choices.Goals as goal

pub returns-clause-all : goal.returns-clause-all
returns-clause-all g c = transit_all

pub returns-clause-each : goal.returns-clause-each
returns-clause-each g c = transit_each
