use Rattle.choice_graph.proofs.GraphDepths.{found_fixed, deeper_same}
use Rattle.choice_graph.proofs.PublicLaws.{few_at}
use Rattle.choice_graph.proofs.laws.deeper_looks_find_no_more.Goals as goal

pub returns : goal.returns
returns c = record { made = found_fixed; deeper = deeper_same; few = few_at }
