use Rattle.std.proofs.Common.{◌-◌, length}
use Rattle.srv6_rules.specs.Packet.{packet_at}
use Rattle.ip6_headers.specs.ChainStepping.{place_view}
use Rattle.end_behaviours.proofs.LastLemmas.{Deciding}
use Rattle.end_behaviours.proofs.header_finding.decide.Given as goal

abbrev pub invariant-lasts : goal.invariant-lasts
invariant-lasts l =
    Deciding l.sid l.allow (packet_at l.bytes) l.initial.lasts.items (place_view l.fn.start) l.lasts.items (place_view l.place)

abbrev pub decreases-lasts : goal.decreases-lasts
decreases-lasts l = length l.bytes - l.place.at
