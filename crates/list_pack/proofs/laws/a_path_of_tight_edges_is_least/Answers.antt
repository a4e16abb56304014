use Rattle.list_pack.proofs.Leasts.{tight_least}
use Rattle.list_pack.proofs.laws.a_path_of_tight_edges_is_least.Goals as goal

pub returns : goal.returns
returns c = tight_least
