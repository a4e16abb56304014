use Rattle.choice_graph.proofs.Legs.{need_some, need_none}
use Rattle.choice_graph.proofs.laws.needs_of_legs_add_up.Goals as goal

pub returns : goal.returns
returns c = record { most = need_some; none = need_none }
