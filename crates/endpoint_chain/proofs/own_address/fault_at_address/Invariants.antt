use Rattle.std.proofs.Common.{length}
use Rattle.srv6_rules.specs.Endpoint.{at_address, at_address_end, at_address_header}
use Rattle.ip6_headers.specs.ChainStepping.{place_view}
use Rattle.endpoint_chain.proofs.ChainLemmas.{ComesTo}
use Rattle.endpoint_chain.proofs.own_address.fault_at_address.Given as goal

abbrev pub invariant-headers : goal.invariant-headers
invariant-headers l =
    ComesTo at_address_header (at_address_end l.packet) l.packet (at_address l.packet) (place_view l.place) l.rest

abbrev pub decreases-headers : goal.decreases-headers
decreases-headers l = length l.rest
