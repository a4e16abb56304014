-- What comes of a header at a SID that decapsulates, by its kind.
use Rattle.std.proofs.Common.{◌≡◌, ℕ, true, false, ◌==◌, List, refl, ◌∙◌, arith}
use Rattle.std.specs.Prelude.{◌≢◌}
use Rattle.std.proofs.lemmas.Bool.{eq-eqb, ne_eqb}
use Rattle.srv6_rules.specs.declared.sid.SidEntry.{SidEntry}
use Rattle.srv6_rules.specs.Packet.{Packet}
use Rattle.srv6_rules.specs.Srh.{segment_routing}
use Rattle.srv6_rules.specs.Chain.{ChainPlace, Header, ChainEnd, routing, routing_type}
use Rattle.srv6_rules.specs.CompressedSteps.{is_next}
use Rattle.srv6_rules.specs.Endpoint.{Endpoint, at_header, at_header_by, at_last_upper, at_sid_routing, at_upper, unknown_routing}
use Rattle.srv6_rules.proofs.PublicLaws.{at_header_unshifted, routing_by}
use Rattle.endpoint_chain.proofs.PublicLaws.{ComesTo}
use Rattle.decap_behaviours.specs.DecapJudging.{IsWithin}

-- a SID that is not of NEXT-CSID shifts nothing: a header is what its kind makes it, and so is the upper layer
pub header_kind : (s : SidEntry) (p : Packet) (h : Header) (rest : Endpoint) → is_next s.csid ≡ false
    → at_header s p h rest ≡ at_header_by (at_sid_routing s p) h rest
header_kind s p h rest stays = at_header_unshifted s p h rest (rw stays refl)

pub header_routing : (s : SidEntry) (p : Packet) (h : Header) (rest : Endpoint) → is_next s.csid ≡ false → h.place.kind ≡ routing
    → at_header s p h rest ≡ at_sid_routing s p h rest
header_routing s p h rest stays kind = header_kind s p h rest stays ∙ routing_by (at_sid_routing s p) h rest kind

pub upper_last : (s : SidEntry) (allow : List ℕ) (p : Packet) (place : ChainPlace) → is_next s.csid ≡ false
    → at_upper s allow p place ≡ at_last_upper s allow p place
upper_last s allow p place stays = rw stays refl

-- a routing header of another type
pub routing_unknown : (s : SidEntry) (p : Packet) (h : Header) (rest : Endpoint) → h.place.kind ≡ routing
    → routing_type h ≢ segment_routing → at_sid_routing s p h rest ≡ unknown_routing h rest
routing_unknown s p h rest kind other =
    let k : (h.place.kind == routing) ≡ true = eq-eqb h.place.kind routing kind in
    let t : (routing_type h == segment_routing) ≡ false = ne_eqb (routing_type h) segment_routing other in
    rw (k, t) refl

-- a place of a chain lies after the IPv6 header, in the packet or at its end
pub comes_within : (treat : Header → Endpoint → Endpoint) (end : ChainEnd → Endpoint) (p : Packet) (e : Endpoint) (q : ChainPlace)
    (rest : List ℕ) → ComesTo treat end p e q rest → IsWithin p q.at
comes_within treat end p e q rest c =
    let ends = c.ends in
    let behind = c.behind in
    record { behind = behind; within = omega arith }
