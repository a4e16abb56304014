-- A step written into a packet's bytes.
use Rattle.std.proofs.Common.{◌≡◌, ℕ, ◌+◌, ◌-◌, ◌*◌, ◌^◌, ◌<◌, ◌≤◌, true, nat_le, List, ◌++◌, length, drop, slice_index, slice_set, sym, ◌∙◌, ap, subst, arith}
use Rattle.std.proofs.lemmas.Bool.{leb-true, and_parts}
use Rattle.std.proofs.lemmas.List.{length-drop, length-set, set-append_left}
use Rattle.std.proofs.lemmas.List.Elements.{All-set}
use Rattle.srv6_rules.specs.Packet.{Packet, V6, IsSpellable, content_of, most_len, packet_at, spelling, stated_len}
use Rattle.srv6_rules.specs.Chain.{from_place, is_whole, routing}
use Rattle.srv6_rules.specs.CompressedSteps.{Move, moved}
use Rattle.srv6_rules.proofs.PublicLaws.{content_of_spelling, edit_payload, length_spelling}
use Rattle.ip6_headers.specs.Ip6Reading.{HoldsPacket}
use Rattle.ip6_headers.proofs.PublicLaws.{holds_spellable, holds_spelled, holds_payload_len, read_hop_limit, read_destination}
use Rattle.replace_csid.specs.Replacing.{with_move}

-- a packet in bytes is no longer than they are
pub packet_within : (bytes : List ℕ) → HoldsPacket bytes → 40 + length (packet_at bytes).payload ≤ length bytes
packet_within bytes h =
    let stated = holds_payload_len bytes h in
    let whole : 40 + stated_len bytes ≤ length bytes = h.whole in
    omega arith

pub payload_most : (bytes : List ℕ) → HoldsPacket bytes → length (packet_at bytes).payload < 65536
payload_most bytes h = (holds_spellable bytes h).payload_len

-- a whole header at a place of a packet ends in it
pub header_within : (bytes : List ℕ) (at : ℕ) → is_whole routing (from_place (packet_at bytes) at) ≡ true
    → at - 40 + 8 ≤ length (packet_at bytes).payload
header_within bytes at whole =
    let rest : List ℕ = from_place (packet_at bytes) at in
    let least : 8 ≤ length rest =
    leb-true 8 (length rest) (and_parts (nat_le 8 (length rest)) (nat_le (8 * (slice_index rest 1 + 1)) (length rest)) whole).0 in
    let long : length rest ≡ length (packet_at bytes).payload - (at - 40) = length-drop (at - 40) (packet_at bytes).payload in
    omega arith

pub place_most : (bytes : List ℕ) (at : ℕ) → HoldsPacket bytes → 40 ≤ at → is_whole routing (from_place (packet_at bytes) at) ≡ true
    → at ≤ most_len
place_most bytes at h behind whole =
    let within = header_within bytes at whole in
    let most = payload_most bytes h in
    omega arith

-- the packet with a byte of its payload written can be spelled
written_spellable : (p : Packet) (k v : ℕ) → IsSpellable p → v < 2 ^ 8 → IsSpellable (record p { payload = slice_set p.payload k v })
written_spellable p k v ok fits = record {
  traffic_class = ok.traffic_class;
  flow_label = ok.flow_label;
  next_header = ok.next_header;
  hop_limit = ok.hop_limit;
  source = ok.source;
  destination = ok.destination;
  payload_len = subst (λ n. n < 2 ^ 16) (sym (length-set p.payload k v)) ok.payload_len;
  payload = All-set (λ b. b < 2 ^ 8) p.payload k v fits ok.payload;
}

-- a byte of the payload, written where it stands in the bytes
read_payload_byte : (bytes : List ℕ) (k v : ℕ) → HoldsPacket bytes → k < length (packet_at bytes).payload → v < 2 ^ 8
    → content_of (slice_set bytes (40 + k) v) ≡ V6 (record (packet_at bytes) { payload = slice_set (packet_at bytes).payload k v })
read_payload_byte bytes k v h below fits =
    let p : Packet = packet_at bytes in
    let q : Packet = record p { payload = slice_set p.payload k v } in
    let rest : List ℕ = drop (length (spelling p)) bytes in
    let long = length_spelling p in
    let same : slice_set bytes (40 + k) v ≡ spelling q ++ rest =
    ap (λ xs. slice_set xs (40 + k) v) (holds_spelled bytes h) ∙ set-append_left (spelling p) rest (40 + k) v (omega arith)
    ∙ ap (λ xs. xs ++ rest) (sym (edit_payload p k v)) in
    ap content_of same ∙ content_of_spelling q rest (written_spellable p k v (holds_spellable bytes h) fits)

-- a step written is the packet after the move
pub write_content : (bytes : List ℕ) (at : ℕ) (m : Move) → HoldsPacket bytes → 40 ≤ at → at + 3 < 40 + length (packet_at bytes).payload
    → m.segments_left < 2 ^ 8 → m.destination < 2 ^ 128 → content_of (with_move bytes at m) ≡ V6 (moved (packet_at bytes) at m)
write_content bytes at m h behind within fits below =
    let p : Packet = packet_at bytes in
    let k : ℕ = at + 3 - 40 in
    let place : 40 + k ≡ at + 3 = omega arith in
    let q : Packet = record p { payload = slice_set p.payload k m.segments_left } in
    let left : content_of (slice_set bytes (at + 3) m.segments_left) ≡ V6 q =
    ap (λ n. content_of (slice_set bytes n m.segments_left)) (sym place)
    ∙ read_payload_byte bytes k m.segments_left h (omega arith) fits in
    let set : List ℕ = slice_set bytes (at + 3) m.segments_left in
    read_destination (slice_set set 7 (p.hop_limit - 1)) (record q { hop_limit = p.hop_limit - 1 })
    (read_hop_limit set q left (p.hop_limit - 1)) m.destination below
