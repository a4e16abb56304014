use Rattle.std.proofs.Common.{length}
use Rattle.srv6_rules.specs.Packet.{packet_at}
use Rattle.ip6_headers.specs.ChainStepping.{place_view}
use Rattle.end_behaviours.proofs.FromLemmas.{Reached}
use Rattle.end_behaviours.proofs.header_finding.find.Given as goal

abbrev pub invariant-headers : goal.invariant-headers
invariant-headers l =
    Reached l.sid l.allow (packet_at l.bytes) (place_view l.fn.start) (place_view l.place) l.rest

abbrev pub decreases-headers : goal.decreases-headers
decreases-headers l = length l.rest
