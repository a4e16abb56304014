use Rattle.std.proofs.Common.{◌∙◌}
use Rattle.net_without.specs.WithoutTerms.{flag_at}
use Rattle.net_without.proofs.Cuts.{left_empty, left_some}
use Rattle.net_without.proofs.up.is_left.Goals as goal

pub returns-then-is_empty : goal.returns-then-is_empty
returns-then-is_empty c = left_empty (flag_at c.args.up.now) c.args.set.now c.is_empty.result c.is_empty.ensures c.if-is_empty.true

pub returns : goal.returns
returns c = c.has_up.ensures ∙ left_some (flag_at c.args.up.now) c.args.set.now c.is_empty.result c.is_empty.ensures c.if-is_empty.false
