use Rattle.list_pack.proofs.Leasts.{unlisted_none}
use Rattle.list_pack.proofs.laws.unlisted_states_have_no_path.Goals as goal

pub returns : goal.returns
returns c = unlisted_none
