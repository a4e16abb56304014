use Rattle.list_pack.proofs.PathLaws.{path_list}
use Rattle.list_pack.proofs.laws.a_path_is_a_legal_list.Goals as goal

pub returns : goal.returns
returns c = path_list
