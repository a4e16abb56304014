use Rattle.choice_graph.proofs.GraphComings.{lists_enough}
use Rattle.choice_graph.proofs.laws.lists_of_choices_are_enough.Goals as goal

pub returns : goal.returns
returns c = lists_enough
