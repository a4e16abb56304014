use Rattle.ip6_headers.specs.ChainStepping.{place_view}
use Rattle.srv6_rules.specs.Packet.{packet_at}
use Rattle.end_behaviours.specs.HeaderFinding.{header_of}
use Rattle.end_behaviours.proofs.EndLengthLemmas.{whole_advances, whole_refused}
use Rattle.end_behaviours.proofs.lengths.whole_end.Goals as goal

pub returns-in-Advance : goal.returns-in-Advance
returns-in-Advance c =
    let p = packet_at c.args.bytes.now in
    let h = header_of p (place_view c.args.place) c.args.len in
    whole_advances c.args.sid.now p h c.args.place.at c.in-Advance.left _ c.in-Advance.ensures.0 c.in-Advance.ensures.1.0

pub returns-in-Refuse : goal.returns-in-Refuse
returns-in-Refuse c =
    let h = header_of (packet_at c.args.bytes.now) (place_view c.args.place) c.args.len in
    whole_refused c.args.sid.now h _ _ _ c.in-Refuse.ensures.0
