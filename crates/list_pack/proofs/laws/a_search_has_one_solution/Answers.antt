use Rattle.list_pack.proofs.Solutions.{solutions_same}
use Rattle.list_pack.proofs.laws.a_search_has_one_solution.Goals as goal

pub returns : goal.returns
returns c = solutions_same
