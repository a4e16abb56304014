use Rattle.std.proofs.Common.{get_or}
use Rattle.list_certificate.proofs.LegNetworks.{known, sid_at}
use Rattle.list_certificate.proofs.item.named_sid.Goals as goal

pub has_name-requires : goal.has_name-requires
has_name-requires g c =
    let v = g.L.Legs.seen c.args.legs.now in
    let sids = c.sids_at-n-items.result.now in
    let n = get_or sids c.loop-n.n-index 0 in
    known c.args.net.now v n
    (c.requires.net n (sid_at v c.args.position sids c.loop-n.n-index c.requires.within c.sids_at-n-items.ensures c.loop-n-test.true))
