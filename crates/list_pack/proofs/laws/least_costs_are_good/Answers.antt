use Rattle.list_pack.proofs.Leasts.{least_good}
use Rattle.list_pack.proofs.laws.least_costs_are_good.Goals as goal

pub returns : goal.returns
returns c = least_good
