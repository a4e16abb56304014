use Rattle.shortest_paths.proofs.Forwarding.{none_at_target, goes_on, arrives}
use Rattle.shortest_paths.proofs.laws.forwarding_comes_to_a_target.Goals as goal

pub returns : goal.returns
returns c = record { target = none_at_target; goes_on = goes_on; arrives = arrives }
