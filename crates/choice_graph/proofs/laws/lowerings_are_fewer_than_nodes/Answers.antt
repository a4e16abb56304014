use Rattle.choice_graph.proofs.GraphDepths.{under_at, under_few}
use Rattle.choice_graph.proofs.PublicLaws.{under_from, few_from_law}
use Rattle.choice_graph.proofs.laws.lowerings_are_fewer_than_nodes.Goals as goal

pub returns : goal.returns
returns c = record { under = under_at; few = under_few; start = under_from; few_from = few_from_law }
