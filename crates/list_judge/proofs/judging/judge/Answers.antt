use Rattle.std.proofs.Common.{refl}
use Rattle.list_judge.proofs.judging.judge.Goals as goal

pub judge_flat-requires-clause-flat : goal.judge_flat-requires-clause-flat
judge_flat-requires-clause-flat c = (c.in-Ok.ensures.flat c.requires.whole).0 refl
