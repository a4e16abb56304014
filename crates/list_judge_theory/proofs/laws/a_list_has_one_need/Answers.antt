use Rattle.list_judge_theory.proofs.OneNeeds.{one_need}
use Rattle.list_judge_theory.proofs.laws.a_list_has_one_need.Goals as goal

pub returns : goal.returns
returns c = λ net intent list a b first other. one_need net intent list a b first other
