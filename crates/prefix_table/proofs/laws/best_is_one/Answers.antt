use Rattle.prefix_table.proofs.TableLemmas.{one_best}
use Rattle.prefix_table.proofs.laws.best_is_one.Goals as goal

pub returns : goal.returns
returns g c = one_best
