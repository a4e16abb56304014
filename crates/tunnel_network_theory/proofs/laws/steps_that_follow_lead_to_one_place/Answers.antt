use Rattle.tunnel_network_theory.proofs.NetworkJoins.{steps_joined}
use Rattle.tunnel_network_theory.proofs.laws.steps_that_follow_lead_to_one_place.Goals as goal

pub returns : goal.returns
returns c = steps_joined
