use Rattle.shortest_paths.proofs.RoutesFollowed.{follows_falls, follows_no_loop, follows_arrives}
use Rattle.shortest_paths.proofs.laws.routed_packets_arrive.Goals as goal

pub returns : goal.returns
returns c = record { falls = follows_falls; no_loop = follows_no_loop; arrives = follows_arrives }
