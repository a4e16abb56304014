use Rattle.loose_walks.proofs.Bridge.{walks_are}
use Rattle.loose_walks.proofs.laws.walks_are_ways_over_the_graph.Goals as goal

pub returns : goal.returns
returns c = walks_are
