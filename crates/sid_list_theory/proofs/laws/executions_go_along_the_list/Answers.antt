use Rattle.sid_list_theory.proofs.Alongs.{row_along}
use Rattle.sid_list_theory.proofs.laws.executions_go_along_the_list.Goals as goal

pub returns : goal.returns
returns c = row_along
