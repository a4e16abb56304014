use Rattle.std.proofs.Common.{◌∙◌, map, ap, arith}
use Rattle.std.proofs.lemmas.List.{take_all}
use Rattle.net_reader.specs.Standings.{standing_of}
use Rattle.net_reader.proofs.JoiningLemmas.{joined_more}
use Rattle.net_reader.proofs.standings.standings.Goals as goal

pub loop-sid-preserved : goal.loop-sid-preserved
loop-sid-preserved c =
    rw c.in_ok-push.ensures.items
    (joined_more standing_of c.args.sids.now c.loop-sid.sid-index c.sid-item.result c.loop-sid.standings.items c.standing_of.result
    c.loop-sid.invariant (omega arith) (c.standing_of.ensures ∙ ap standing_of c.sid-item.is))

pub returns : goal.returns
returns c = c.loop-sid.invariant ∙ ap (map standing_of) (take_all c.loop-sid.sid-index c.args.sids.now (omega arith))
