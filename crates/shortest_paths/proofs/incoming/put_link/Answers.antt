use Rattle.std.proofs.Common.{◌<◌, get_or, length}
use Rattle.std.proofs.lemmas.Option.{slice_get-get_or}
use Rattle.shortest_paths.proofs.LinksByEnd.{puts_one, puts_out}
use Rattle.shortest_paths.proofs.incoming.put_link.Goals as goal

pub returns-in_ok-push : goal.returns-in_ok-push
returns-in_ok-push c =
    let groups = c.args.groups.now in
    let far = c.in-Some.far in
    let group = get_or groups far c.index-groups-far.result in
    let within : far < length groups = c.requires far c.in-Some.is in
    puts_one groups c.args.link far c.in-Some.is group c.push.new.self within
    (slice_get-get_or groups far c.index-groups-far.result within)
    c.in_ok-push.ensures.items

pub returns-in_default : goal.returns-in_default
returns-in_default c = puts_out c.args.groups.now c.args.link c.in_default.is
