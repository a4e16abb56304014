use Rattle.std.proofs.Common.{◌+◌, sym, subst}
use Rattle.list_encoder.specs.Grouped.{Groups, AreEmpty}
use Rattle.list_encoder.proofs.Grouping.{empty_more}
use Rattle.list_encoder.proofs.grouped.no_groups.Goals as goal

pub loop-i-preserved : goal.loop-i-preserved
loop-i-preserved c =
    subst (λ (gs : Groups). AreEmpty (c.loop-i._i + 1) gs) (sym c.in_ok-push.ensures.items)
    (empty_more c.loop-i._i c.loop-i.groups.items c.new.result c.new.ensures.items c.loop-i.invariant)
