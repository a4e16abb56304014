use Rattle.list_pack.proofs.PathLaws.{list_path}
use Rattle.list_pack.proofs.laws.a_legal_list_is_a_path.Goals as goal

pub returns : goal.returns
returns c = list_path
