use Rattle.std.proofs.Common.{length}
use Rattle.srv6_rules.specs.Packet.{packet_at}
use Rattle.srv6_rules.specs.Endpoint.{at_end, at_header, at_sid}
use Rattle.ip6_headers.specs.ChainStepping.{place_view}
use Rattle.endpoint_chain.proofs.PublicLaws.{ComesTo}
use Rattle.decap_behaviours.proofs.decap_judge.judge.Given as goal

abbrev pub invariant-headers : goal.invariant-headers
invariant-headers l =
    let p = packet_at l.bytes in
    ComesTo (at_header l.sid p) (at_end l.sid l.allow p) p (at_sid l.sid l.allow p) (place_view l.place) l.rest

abbrev pub decreases-headers : goal.decreases-headers
decreases-headers l = length l.rest
