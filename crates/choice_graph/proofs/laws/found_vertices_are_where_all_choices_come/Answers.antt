use Rattle.choice_graph.proofs.GraphComings.{most_at, none_at}
use Rattle.choice_graph.proofs.laws.found_vertices_are_where_all_choices_come.Goals as goal

pub returns : goal.returns
returns c = record { most = most_at; none = none_at }
