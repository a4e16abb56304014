use Rattle.std.proofs.Common.{◌∙◌, map, ap, arith}
use Rattle.std.proofs.lemmas.List.{take_all}
use Rattle.net_reader.specs.Numbering.{number_of}
use Rattle.net_reader.proofs.JoiningLemmas.{joined_more}
use Rattle.net_reader.proofs.joining.numbers.Goals as goal

pub loop-name-preserved : goal.loop-name-preserved
loop-name-preserved c =
    rw c.in_ok-push.ensures.items
    (joined_more (number_of c.args.names.now) c.args.list.now c.loop-name.name-index c.name-item.result c.loop-name.all.items
    c.number.result c.loop-name.invariant (omega arith) (c.number.ensures ∙ ap (number_of c.args.names.now) c.name-item.is))

pub returns : goal.returns
returns c =
    let all =
    c.loop-name.invariant
    ∙ ap (map (number_of c.args.names.now)) (take_all c.loop-name.name-index c.args.list.now (omega arith)) in
    cc
