use Rattle.shortest_paths.proofs.Beginnings.{leads_begins}
use Rattle.shortest_paths.proofs.laws.next_hops_begin_least_walks.Goals as goal

pub returns : goal.returns
returns c = leads_begins
