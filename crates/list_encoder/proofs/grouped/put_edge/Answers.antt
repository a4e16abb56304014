use Rattle.std.proofs.Common.{get_or}
use Rattle.std.proofs.lemmas.Option.{slice_get-get_or}
use Rattle.list_encoder.proofs.Grouping.{puts_one}
use Rattle.list_encoder.proofs.grouped.put_edge.Goals as goal

pub returns : goal.returns
returns c =
    let groups = c.args.groups.now in
    puts_one groups c.args.edge c.in-Some.to (get_or groups c.in-Some.to c.index-groups-to.result) c.push.new.self c.in-Some.is
    c.if-to-groups.false
    (slice_get-get_or groups c.in-Some.to c.index-groups-to.result c.if-to-groups.false)
    c.in_ok-push.ensures.items
