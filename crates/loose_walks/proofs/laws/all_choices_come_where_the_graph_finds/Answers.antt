use Rattle.loose_walks.proofs.Bridge.{choices_come}
use Rattle.loose_walks.proofs.laws.all_choices_come_where_the_graph_finds.Goals as goal

pub returns : goal.returns
returns c = choices_come
