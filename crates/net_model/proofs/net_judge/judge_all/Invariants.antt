use Rattle.net_model.proofs.NetworkJudgingLemmas.{HasJudged}
use Rattle.net_model.proofs.net_judge.judge_all.Given as goal

abbrev pub invariant-loop-i : goal.invariant-loop-i
invariant-loop-i g l = HasJudged l.table (g.J.Judge.rules l.rules) l.items l.i
