use Rattle.loose_walks.proofs.Making.{graph_is}
use Rattle.loose_walks.proofs.laws.networks_have_graphs.Goals as goal

pub returns : goal.returns
returns c = graph_is
