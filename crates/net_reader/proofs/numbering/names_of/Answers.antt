use Rattle.std.proofs.Common.{◌∙◌, map, ap, arith}
use Rattle.std.proofs.lemmas.List.{take_all}
use Rattle.net_reader.proofs.ReaderNumberLemmas.{kept_names}
use Rattle.net_reader.proofs.numbering.names_of.Goals as goal

pub loop-item-preserved : goal.loop-item-preserved
loop-item-preserved g c =
    rw c.in_ok-push.ensures.items
    (kept_names g.X.Named.name c.args.items.now c.loop-item.item-index c.item-item.result c.loop-item.names.items c.as_str.result
    c.loop-item.invariant (omega arith) c.item-item.is (c.as_str.ensures ∙ c.name.ensures))

pub returns : goal.returns
returns g c =
    c.loop-item.invariant ∙ ap (map g.X.Named.name) (take_all c.loop-item.item-index c.args.items.now (omega arith))
