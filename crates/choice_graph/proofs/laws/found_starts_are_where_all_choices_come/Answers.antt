use Rattle.choice_graph.proofs.GraphComings.{most_from, none_from}
use Rattle.choice_graph.proofs.laws.found_starts_are_where_all_choices_come.Goals as goal

pub returns : goal.returns
returns c = record { most = most_from; none = none_from }
