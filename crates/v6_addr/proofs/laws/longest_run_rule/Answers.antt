use Rattle.v6_addr.proofs.RunLaws.{longest_run_is}
use Rattle.v6_addr.proofs.laws.longest_run_rule.Goals as goal

pub returns : goal.returns
returns c = longest_run_is
