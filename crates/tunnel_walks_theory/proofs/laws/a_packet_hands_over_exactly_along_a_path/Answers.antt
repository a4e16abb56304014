use Rattle.tunnel_walks_theory.proofs.TunnelPaths.{hands_path, path_hands, path_each}
use Rattle.tunnel_walks_theory.proofs.laws.a_packet_hands_over_exactly_along_a_path.Goals as goal

pub returns-clause-has : goal.returns-clause-has
returns-clause-has g c = hands_path

pub returns-clause-hands : goal.returns-clause-hands
returns-clause-hands g c = path_hands

pub returns-clause-each : goal.returns-clause-each
returns-clause-each g c = path_each
