use Rattle.std.proofs.Common.{◌+◌, sym, subst}
use Rattle.shortest_paths.specs.Incoming.{Groups, AreEmpty}
use Rattle.shortest_paths.proofs.LinksByEnd.{empty_more}
use Rattle.shortest_paths.proofs.incoming.make_groups.Goals as goal

pub loop-i-preserved : goal.loop-i-preserved
loop-i-preserved c =
    subst (λ (gs : Groups). AreEmpty (c.loop-i._i + 1) gs) (sym c.in_ok-push.ensures.items)
    (empty_more c.loop-i._i c.loop-i.groups.items c.new.result c.new.ensures.items c.loop-i.invariant)
