use Rattle.prefix_table.proofs.TableLemmas.{best_taken, best_kept}
use Rattle.prefix_table.proofs.laws.best_with_one_more.Goals as goal

pub returns-clause-better : goal.returns-clause-better
returns-clause-better g c = best_taken

pub returns-clause-no_better : goal.returns-clause-no_better
returns-clause-no_better g c = best_kept
