use Rattle.list_pack.proofs.StepLists.{steps_list}
use Rattle.list_pack.proofs.laws.a_legal_list_is_the_list_of_its_steps.Goals as goal

pub returns : goal.returns
returns c = steps_list
