use Rattle.std.proofs.Common.{◌-◌, length}
use Rattle.srv6_rules.specs.Packet.{packet_at}
use Rattle.ip6_headers.specs.ChainStepping.{place_view}
use Rattle.end_behaviours.proofs.EndLengthLemmas.{Counted}
use Rattle.end_behaviours.proofs.lengths.len_from.Given as goal

abbrev pub invariant-lasts : goal.invariant-lasts
invariant-lasts l = Counted l.sid l.allow (packet_at l.bytes) (place_view l.fn.start) (place_view l.place) l.taken

abbrev pub decreases-lasts : goal.decreases-lasts
decreases-lasts l = length l.bytes - l.place.at
