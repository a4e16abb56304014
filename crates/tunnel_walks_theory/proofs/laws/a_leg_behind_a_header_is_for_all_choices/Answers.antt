use Rattle.tunnel_walks_theory.proofs.TunnelPaths.{leg_behind, leg_each}
use Rattle.tunnel_walks_theory.proofs.laws.a_leg_behind_a_header_is_for_all_choices.Goals as goal

pub returns-clause-all : goal.returns-clause-all
returns-clause-all g c = leg_behind

pub returns-clause-each : goal.returns-clause-each
returns-clause-each g c = leg_each
