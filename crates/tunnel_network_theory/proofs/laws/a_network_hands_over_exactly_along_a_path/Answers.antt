use Rattle.tunnel_network_theory.proofs.NetworkHanding.{hands_have, have_hands, hands_each}
use Rattle.tunnel_network_theory.proofs.laws.a_network_hands_over_exactly_along_a_path.Goals as goal

pub returns-clause-has : goal.returns-clause-has
returns-clause-has c = hands_have

pub returns-clause-hands : goal.returns-clause-hands
returns-clause-hands c = have_hands

pub returns-clause-each : goal.returns-clause-each
returns-clause-each c = hands_each
