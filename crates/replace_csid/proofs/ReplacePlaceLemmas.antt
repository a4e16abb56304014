-- A segment routing header of a chain, in the packet's bytes from its place on.
use Rattle.std.proofs.Common.{◌≡◌, ℕ, ◌+◌, ◌-◌, ◌*◌, ◌^◌, ◌<◌, ◌≤◌, true, ◌==◌, nat_le, List, ◌++◌, length, drop, slice_index, All, sym, ◌∙◌, ap, arith}
use Rattle.std.proofs.lemmas.Bool.{and_parts, and_from, le-leb, eqb-true}
use Rattle.std.proofs.lemmas.List.{length-drop, take-append-drop, take_all}
use Rattle.srv6_rules.specs.Packet.{Packet, header_len}
use Rattle.srv6_rules.specs.Srh.{srh_of, srh_spelling}
use Rattle.srv6_rules.specs.Chain.{Header, from_place, is_segment_routing, is_whole, routing, extension_bytes, routing_type}
use Rattle.srv6_rules.specs.ChainTerms.{LiesIn}
use Rattle.srv6_rules.proofs.PublicLaws.{lies_bytes, lies_stated, srh_of_spelling, srh_of_spellable, srh_spelling_srh_of}

pub place_behind : (p : Packet) (h : Header) → LiesIn p h → header_len ≤ h.place.at
place_behind p h lies = lies.behind_header

routing_kind : (h : Header) → is_segment_routing h ≡ true → h.place.kind ≡ routing
routing_kind h is = eqb-true h.place.kind routing (and_parts (h.place.kind == routing) (routing_type h == 4) is).0

pub place_whole : (p : Packet) (h : Header) → LiesIn p h → is_segment_routing h ≡ true → is_whole routing (from_place p h.place.at) ≡ true
place_whole p h lies is =
    let rest : List ℕ = from_place p h.place.at in
    let start = lies.behind_header in
    let within = lies.within in
    let least = lies.least in
    let stated : length h.bytes ≡ extension_bytes routing rest =
    lies_stated p h lies ∙ ap (λ k. extension_bytes k rest) (routing_kind h is) in
    let long = length-drop (h.place.at - 40) p.payload in
    and_from (nat_le 8 (length rest)) (nat_le (extension_bytes routing rest) (length rest)) (le-leb 8 (length rest) (omega arith))
    (le-leb (extension_bytes routing rest) (length rest) (omega arith))

pub place_value : (p : Packet) (h : Header) → LiesIn p h → is_segment_routing h ≡ true → All (λ b. b < 2 ^ 8) p.payload
    → srh_of (from_place p h.place.at) ≡ srh_of h.bytes
place_value p h lies is all =
    let rest : List ℕ = from_place p h.place.at in
    let bytes : List ℕ = h.bytes in
    let in_range = lies_bytes p h lies all in
    let kind : slice_index bytes 2 ≡ 4 = eqb-true (routing_type h) 4 (and_parts (h.place.kind == routing) (routing_type h == 4) is).1 in
    let least = lies.least in
    let stated : length bytes ≡ 8 * (slice_index bytes 1 + 1) =
    lies.stated ∙ ap (λ k. extension_bytes k bytes) (routing_kind h is) in
    let spelled : srh_spelling (srh_of bytes) ≡ bytes =
    srh_spelling_srh_of bytes in_range least kind ∙ take_all (8 + 8 * slice_index bytes 1) bytes (omega arith) in
    let parts : rest ≡ srh_spelling (srh_of bytes) ++ drop (length bytes) rest =
    sym (take-append-drop (length bytes) rest) ∙ ap (λ xs. xs ++ drop (length bytes) rest) (sym lies.bytes ∙ sym spelled) in
    ap srh_of parts ∙ srh_of_spelling (srh_of bytes) (drop (length bytes) rest) (srh_of_spellable bytes in_range (omega arith))
