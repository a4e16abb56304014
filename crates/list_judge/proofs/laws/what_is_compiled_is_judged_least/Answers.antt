use Rattle.list_judge.proofs.JudgedLeast.{judged_kept, judged_long, judged_over}
use Rattle.list_judge.proofs.laws.what_is_compiled_is_judged_least.Goals as goal

pub returns-clause-kept : goal.returns-clause-kept
returns-clause-kept c = λ net intent found judgement answers is. judged_kept net intent found judgement answers is

pub returns-clause-too_long : goal.returns-clause-too_long
returns-clause-too_long c = λ net intent found judgement answers is. judged_long net intent found judgement answers is

pub returns-clause-hop_limit : goal.returns-clause-hop_limit
returns-clause-hop_limit c = λ net intent found judgement answers is. judged_over net intent found judgement answers is
