use Rattle.std.proofs.Common.{◌∙◌, map, ap, arith}
use Rattle.std.proofs.lemmas.List.{take_all}
use Rattle.net_reader.proofs.JoiningLemmas.{joined_more}
use Rattle.net_reader.proofs.joining.each.Goals as goal

pub loop-item-preserved : goal.loop-item-preserved
loop-item-preserved g c =
    rw c.in_ok-push.ensures.items
    (joined_more (g.J.Joins.of c.args.by.now) c.args.items.now c.loop-item.item-index c.item-item.result c.loop-item.parts.items
    c.in_ok-part.part c.loop-item.invariant (omega arith) (c.in_ok-part.ensures ∙ ap (g.J.Joins.of c.args.by.now) c.item-item.is))

pub returns : goal.returns
returns g c =
    c.loop-item.invariant
    ∙ ap (map (g.J.Joins.of c.args.by.now)) (take_all c.loop-item.item-index c.args.items.now (omega arith))
