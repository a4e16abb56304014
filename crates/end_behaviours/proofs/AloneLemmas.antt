-- A packet alone in its bytes, and what is written into them.
use Rattle.std.proofs.Common.{◌≡◌, ℕ, ◌+◌, ◌-◌, ◌^◌, ◌<◌, ◌≤◌, Bool, true, false, ◌==◌, if◌then◌else◌, List, ◌++◌, length, take, drop, slice_index, slice_set, All, refl, sym, ap, subst, ◌∙◌, arith}
use Rattle.std.specs.Prelude.{nat_lt, ◌/◌}
use Rattle.std.proofs.lemmas.Bool.{ltb-false}
use Rattle.std.proofs.lemmas.List.{drop-drop, length-set}
use Rattle.std.proofs.lemmas.List.Elements.{All-set}
use Rattle.srv6_rules.specs.declared.numbers.TheConstants.{IPV6_VERSION}
use Rattle.srv6_rules.specs.declared.reason.Reason.TheVariants.{Truncated, BadVersion}
use Rattle.srv6_rules.specs.Packet.{Packet, IsSpellable, V6, Unreadable, header_len, content_of, packet_at, stated_len, spelling, address_bytes}
use Rattle.srv6_rules.specs.PacketTerms.{Spells}
use Rattle.srv6_rules.specs.Chain.{from_place}
use Rattle.srv6_rules.specs.CompressedSteps.{Move, moved}
use Rattle.srv6_rules.specs.CompressedStepsTerms.{with_hop_and_destination}
use Rattle.srv6_rules.proofs.PublicLaws.{content_of_spelling_alone, length_spelling, all_spelling, spelling_behind, edit_hop_limit, edit_destination, edit_payload}
use Rattle.ip6_headers.specs.Ip6Reading.{HoldsPacket}
use Rattle.ip6_headers.proofs.PublicLaws.{holds_payload_len}
use Rattle.pkt_buf.specs.BufferLending.{left_in}
use Rattle.pkt_buf.proofs.PublicLaws.{left_whole}
use Rattle.replace_csid.specs.Replacing.{with_move}
use Rattle.endpoint_chain.specs.Outcomes.{HoldsAlone}
use Rattle.endpoint_chain.proofs.PublicLaws.{alone_spelled, alone_spellable, alone_length}

-- ---- a spelling holds its packet alone

read_by_tests : (bytes : List ℕ) (p : Packet) (none six short cut : Bool)
    → (if none then Unreadable bytes Truncated
    else if six then (if short then Unreadable bytes Truncated else if cut then Unreadable bytes Truncated else V6 (packet_at bytes))
    else Unreadable bytes BadVersion) ≡ V6 p
    → (packet_at bytes ≡ p) × (cut ≡ false)
read_by_tests bytes p true six short cut e = cc
read_by_tests bytes p false false short cut e = cc
read_by_tests bytes p false true true cut e = cc
read_by_tests bytes p false true false true e = cc
read_by_tests bytes p false true false false e = (cc, refl)

read_value : (bytes : List ℕ) (p : Packet) → content_of bytes ≡ V6 p
    → (packet_at bytes ≡ p) × (nat_lt (length bytes) (header_len + stated_len bytes) ≡ false)
read_value bytes p e =
    read_by_tests bytes p (length bytes == 0) ((slice_index bytes 0 / 16) == IPV6_VERSION) (nat_lt (length bytes) header_len)
    (nat_lt (length bytes) (header_len + stated_len bytes)) e

pub spelled_alone : (bytes : List ℕ) (q : Packet) → Spells bytes q → HoldsAlone bytes × (packet_at bytes ≡ q)
spelled_alone bytes q s =
    let reads : content_of bytes ≡ V6 q = ap content_of s.1 ∙ content_of_spelling_alone q s.0 in
    let value = read_value bytes q reads in
    let whole : header_len + stated_len bytes ≤ length bytes = ltb-false (length bytes) (header_len + stated_len bytes) value.1 in
    let Q : List ℕ → Type 0 = λ xs. All (λ b. b < 2 ^ 8) xs in
    let holds : HoldsPacket bytes = record {
      reads = reads ∙ ap V6 (sym value.0);
      whole = whole;
      in_range = subst Q (sym s.1) (all_spelling q s.0);
    } in
    let stated = holds_payload_len bytes holds in
    let same : length (packet_at bytes).payload ≡ length q.payload = ap (λ (x : Packet). length x.payload) value.0 in
    let long : length bytes ≡ header_len + length q.payload = ap length s.1 ∙ length_spelling q in
    (record { holds = holds; alone = omega arith }, value.0)

pub alone_spells : (bytes : List ℕ) → HoldsAlone bytes → Spells bytes (packet_at bytes)
alone_spells bytes alone = (alone_spellable bytes alone, alone_spelled bytes alone)

-- the packet's bytes from a place on
pub alone_from : (bytes : List ℕ) (at : ℕ) → HoldsAlone bytes → header_len ≤ at → from_place (packet_at bytes) at ≡ drop at bytes
alone_from bytes at alone behind =
    let p : Packet = packet_at bytes in
    let sum : 40 + (at - 40) ≡ at = omega arith in
    ap (drop (at - 40)) (sym (ap (drop 40) (alone_spelled bytes alone) ∙ spelling_behind p))
    ∙ drop-drop (at - 40) 40 bytes ∙ ap (λ n. drop n bytes) sum

-- ---- what is written

-- the packet's hop limit and destination
pub header_written : (p : Packet) (hop_limit destination : ℕ)
    → with_hop_and_destination (spelling p) hop_limit destination
    ≡ spelling (record p { hop_limit = hop_limit; destination = destination })
header_written p hop_limit destination =
    ap (λ xs. take 24 xs ++ (address_bytes destination ++ drop 40 xs)) (sym (edit_hop_limit p hop_limit))
    ∙ sym (edit_destination (record p { hop_limit = hop_limit }) destination)

-- a step
pub move_written : (bytes : List ℕ) (at : ℕ) (m : Move) → HoldsAlone bytes → header_len ≤ at
    → with_move bytes at m ≡ spelling (moved (packet_at bytes) at m)
move_written bytes at m alone behind =
    let p : Packet = packet_at bytes in
    let k : ℕ = at + 3 - 40 in
    let place : at + 3 ≡ 40 + k = omega arith in
    let left : slice_set bytes (at + 3) m.segments_left ≡ spelling (record p { payload = slice_set p.payload k m.segments_left }) =
    ap (λ n. slice_set bytes n m.segments_left) place
    ∙ ap (λ xs. slice_set xs (40 + k) m.segments_left) (alone_spelled bytes alone)
    ∙ sym (edit_payload p k m.segments_left) in
    ap (λ xs. with_hop_and_destination xs (p.hop_limit - 1) m.destination) left
    ∙ header_written (record p { payload = slice_set p.payload k m.segments_left }) (p.hop_limit - 1) m.destination

pub moved_spellable : (p : Packet) (at : ℕ) (m : Move) → IsSpellable p → m.segments_left < 2 ^ 8 → m.destination < 2 ^ 128
    → IsSpellable (moved p at m)
moved_spellable p at m ok small below =
    let hop = ok.hop_limit in
    let k : ℕ = at + 3 - 40 in
    record {
      traffic_class = ok.traffic_class;
      flow_label = ok.flow_label;
      next_header = ok.next_header;
      hop_limit = omega arith;
      source = ok.source;
      destination = below;
      payload_len = subst (λ n. n < 2 ^ 16) (sym (length-set p.payload k m.segments_left)) ok.payload_len;
      payload = All-set (λ b. b < 2 ^ 8) p.payload k m.segments_left small ok.payload;
    }

-- ---- the bytes of a buffer that were lent, where a packet of the same length was written

pub record Rewritten (old new : List ℕ) (q : Packet) : Type 0 where
  pub spells : Spells (left_in old new) q
  pub long : length (left_in old new) ≡ length old

pub lent_spells : (old new : List ℕ) (q : Packet) → HoldsAlone old → IsSpellable q → new ≡ spelling q
    → length q.payload ≡ length (packet_at old).payload → Rewritten old new q
lent_spells old new q alone ok is same =
    let long : length new ≡ length old = ap length is ∙ length_spelling q ∙ ap (λ n. 40 + n) same ∙ sym (alone_length old alone) in
    let whole = left_whole old new long in
    record { spells = (ok, whole ∙ is); long = ap length whole ∙ long }
