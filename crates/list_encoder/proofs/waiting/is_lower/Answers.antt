use Rattle.std.proofs.Common.{Option, Some, sym, subst}
use Rattle.std.specs.Prelude.{MatchBool}
use Rattle.list_pack.specs.declared.types.Cost.{Cost}
use Rattle.list_pack.specs.Costs.{Under}
use Rattle.list_encoder.specs.CellTable.{Improves}
use Rattle.list_encoder.proofs.waiting.is_lower.Goals as goal

pub returns-in-None : goal.returns-in-None
returns-in-None c = subst (λ (o : Option Cost). Improves o c.args.cost) (sym c.in-None.is) tt

pub returns-in-Some : goal.returns-in-Some
returns-in-Some c =
    subst (λ (o : Option Cost). MatchBool c.is_below.result (Improves o c.args.cost) (Under o (Some c.args.cost))) (sym c.in-Some.is)
    c.is_below.ensures
