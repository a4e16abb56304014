-- Which packets in outer headers bytes can spell, and the forms of an encapsulation.
use Rattle.std.proofs.Common.{◌≡◌, ℕ, ◌+◌, ◌-◌, ◌*◌, ◌^◌, ◌<◌, ◌≤◌, Bool, true, false, not, nat_lt, if◌then◌else◌, List, [], ◌∷◌, ◌++◌, length, drop, reverse, slice_index, slice_set, All, flat_map, refl, sym, ap, subst, ◌∙◌, arith, inl, inr, length-drop}
use Rattle.std.proofs.lemmas.Bool.{cases_Bool, cases_lt, lt-ltb, ltb-false}
use Rattle.std.proofs.lemmas.List.{get_or_past, length-reverse}
use Rattle.std.proofs.lemmas.List.Elements.{All-nil, All-append}
use Rattle.srv6_rules.specs.Behaviours.{ipv6_inside}
use Rattle.srv6_rules.specs.Packet.{Packet, IsSpellable, most_len, spelling, two_bytes, address_bytes}
use Rattle.srv6_rules.specs.Srh.{srh_spelling}
use Rattle.srv6_rules.specs.SrhTerms.{IsSrhSpellable}
use Rattle.srv6_rules.specs.Chain.{routing}
use Rattle.srv6_rules.specs.Encapsulation.{Encapsulation, segment_list, has_segment_routing, segment_routing_of, outer, at_segment, header_bytes, inner_lowered}
use Rattle.srv6_rules.specs.EncapsulationTerms.{IsSpellableEncapsulation, encapsulated}
use Rattle.srv6_rules.proofs.Bytes.{all_address_bytes}
use Rattle.srv6_rules.proofs.PacketPackets.{length_spelling, all_spelling}
use Rattle.srv6_rules.proofs.PacketEdits.{edit_hop_limit}
use Rattle.srv6_rules.proofs.Headers.{all_srh_spelling}
use Rattle.srv6_rules.proofs.Encapsulations.{length_body, list_no_more, more_routing, outer_routed, outer_bare, length_outer}

-- ---- packets that bytes can spell

all_entries : (list : List ℕ) → All (λ b. b < 2 ^ 8) (flat_map address_bytes list)
all_entries [] = All-nil (λ b. b < 2 ^ 8)
all_entries (a ∷ list) = All-append (λ b. b < 2 ^ 8) (address_bytes a) (flat_map address_bytes list) (all_address_bytes a)
    (all_entries list)

header_spellable : (e : Encapsulation) (left : ℕ) → IsSpellableEncapsulation e → left < 2 ^ 8 → IsSrhSpellable (segment_routing_of e left)
header_spellable e left ok below =
    let list = list_no_more e in
    let most = ok.most in
    record {
      next_header = omega arith;
      extension_len = omega arith;
      segments_left = below;
      last_entry = omega arith;
      flags = omega arith;
      tag = omega arith;
      body_len = length_body e left;
      body = all_entries (segment_list e);
    }

-- an address of a list, or 0 past its end
address_below : (segments : List ℕ) (i : ℕ) → All (λ a. a < 2 ^ 128) segments → slice_index segments i < 2 ^ 128
address_below segments i all = elim (cases_lt i (length segments)) [
  | inl within ↦ all i 0 within
  | inr past ↦ rw (get_or_past segments i 0 past) (omega arith)
]

outer_payload_bytes : (e : Encapsulation) (inner : List ℕ) (left hop destination : ℕ) → IsSpellableEncapsulation e → left < 2 ^ 8
    → All (λ b. b < 2 ^ 8) inner
    → All (λ b. b < 2 ^ 8) (outer e inner left hop destination).payload
outer_payload_bytes e inner left hop destination ok below all =
    let Q : Packet → Type 0 = λ p. All (λ b. b < 2 ^ 8) p.payload in
    elim (cases_Bool (has_segment_routing e)) [
      | inl has ↦ subst Q (sym (outer_routed e inner left hop destination has))
          (All-append (λ b. b < 2 ^ 8) (srh_spelling (segment_routing_of e left)) inner
          (all_srh_spelling (segment_routing_of e left) (header_spellable e left ok below)) all)
      | inr not ↦ subst Q (sym (outer_bare e inner left hop destination not)) all
    ]

outer_next_header : (has : Bool) → (if has then routing else ipv6_inside) < 2 ^ 8
outer_next_header true = omega arith
outer_next_header false = omega arith

pub at_segment_spellable : (e : Encapsulation) (inner : List ℕ) (i hop : ℕ) → IsSpellableEncapsulation e → hop < 2 ^ 8
    → All (λ b. b < 2 ^ 8) inner
    → header_bytes e.reduced (length e.segments) + length inner ≤ most_len → IsSpellable (at_segment e inner i hop)
at_segment_spellable e inner i hop ok low all short =
    let left : ℕ = length e.segments - 1 - i in
    let most = ok.most in
    let below : left < 2 ^ 8 = omega arith in
    let len = length_outer e inner left hop (slice_index e.segments i) in
    record {
      traffic_class = ok.traffic_class;
      flow_label = ok.flow_label;
      next_header = outer_next_header (has_segment_routing e);
      hop_limit = low;
      source = ok.source;
      destination = address_below e.segments i ok.segments;
      payload_len = omega arith;
      payload = outer_payload_bytes e inner left hop (slice_index e.segments i) ok below all;
    }

-- ---- a packet that is encapsulated

pub lowered_spellable : (p : Packet) → IsSpellable p → IsSpellable (inner_lowered p)
lowered_spellable p ok =
    let hop : p.hop_limit < 2 ^ 8 = ok.hop_limit in
    record {
      traffic_class = ok.traffic_class;
      flow_label = ok.flow_label;
      next_header = ok.next_header;
      hop_limit = omega arith;
      source = ok.source;
      destination = ok.destination;
      payload_len = ok.payload_len;
      payload = ok.payload;
    }

-- the hop limit's byte alone is another
pub lowered_spelling : (p : Packet) → spelling (inner_lowered p) ≡ slice_set (spelling p) 7 (p.hop_limit - 1)
lowered_spelling p = edit_hop_limit p (p.hop_limit - 1)

pub encapsulated_spellable : (e : Encapsulation) (p : Packet) (hop : ℕ) → IsSpellableEncapsulation e → IsSpellable p → hop < 2 ^ 8
    → header_bytes e.reduced (length e.segments) + length (spelling p) ≤ most_len → IsSpellable (encapsulated e p hop)
encapsulated_spellable e p hop ok inner low short =
    let one = length_spelling p in
    let two = length_spelling (inner_lowered p) in
    let same : length (spelling (inner_lowered p)) ≡ length (spelling p) = two ∙ sym one in
    at_segment_spellable e (spelling (inner_lowered p)) 0 hop ok low (all_spelling (inner_lowered p) (lowered_spellable p inner))
    (omega arith)

-- the header bytes of at least one segment grow with their number
pub header_bytes_more : (reduced : Bool) (m n : ℕ) → 0 < m → m < n → header_bytes reduced m < header_bytes reduced n
header_bytes_more true m n some more =
    let many : nat_lt 1 n ≡ true = lt-ltb 1 n (omega arith) in
    elim (cases_Bool (nat_lt 1 m)) [
      | inl two ↦ rw (many, two) (omega arith)
      | inr one ↦ let few = ltb-false 1 m one in rw (many, one) (omega arith)
    ]
header_bytes_more false m n some more = omega arith

-- ---- the forms

pub list_full : (e : Encapsulation) (left : ℕ) → e.reduced ≡ false
    → (has_segment_routing e ≡ true) × (segment_list e ≡ reverse e.segments)
    × ((segment_routing_of e left).last_entry ≡ length e.segments - 1)
list_full e left full =
    let list : segment_list e ≡ reverse e.segments = rw full refl in
    (rw full refl, list, ap (λ xs. length xs - 1) list ∙ ap (λ n. n - 1) (length-reverse e.segments))

pub list_reduced : (e : Encapsulation) (left : ℕ) → e.reduced ≡ true → 1 < length e.segments
    → (has_segment_routing e ≡ true) × (segment_list e ≡ reverse (drop 1 e.segments))
    × ((segment_routing_of e left).last_entry ≡ length e.segments - 2)
list_reduced e left reduced more =
    let list : segment_list e ≡ reverse (drop 1 e.segments) = rw reduced refl in
    let len : length (reverse (drop 1 e.segments)) ≡ length e.segments - 1 = length-reverse (drop 1 e.segments)
    ∙ length-drop 1 e.segments in
    (more_routing e more, list, ap (λ xs. length xs - 1) list ∙ omega arith)

pub list_one : (e : Encapsulation) → e.reduced ≡ true → length e.segments ≡ 1 → has_segment_routing e ≡ false
list_one e reduced one = rw (reduced, one) refl

pub outer_with_header : (e : Encapsulation) (inner : List ℕ) (left hop destination : ℕ) → has_segment_routing e ≡ true
    → ((outer e inner left hop destination).next_header ≡ routing)
    × ((outer e inner left hop destination).payload ≡ srh_spelling (segment_routing_of e left) ++ inner)
outer_with_header e inner left hop destination has =
    let is = outer_routed e inner left hop destination has in
    (ap (λ (p : Packet). p.next_header) is, ap (λ (p : Packet). p.payload) is)

pub outer_without_header : (e : Encapsulation) (inner : List ℕ) (left hop destination : ℕ) → has_segment_routing e ≡ false
    → ((outer e inner left hop destination).next_header ≡ ipv6_inside) × ((outer e inner left hop destination).payload ≡ inner)
outer_without_header e inner left hop destination has =
    let is = outer_bare e inner left hop destination has in
    (ap (λ (p : Packet). p.next_header) is, ap (λ (p : Packet). p.payload) is)

-- the header byte by byte: its first eight, and the entries
pub header_bytes_law : (e : Encapsulation) (left : ℕ) → srh_spelling (segment_routing_of e left)
    ≡ 41 ∷ (2 * length (segment_list e)) ∷ 4 ∷ left ∷ (length (segment_list e) - 1) ∷ 0 ∷ 0 ∷ 0 ∷ flat_map address_bytes (segment_list e)
unfolding two_bytes
header_bytes_law e left = refl

-- ---- lengths of spellings

pub length_at_segment : (e : Encapsulation) (inner : List ℕ) (i hop : ℕ)
    → length (spelling (at_segment e inner i hop)) ≡ header_bytes e.reduced (length e.segments) + length inner
length_at_segment e inner i hop =
    length_spelling (at_segment e inner i hop) ∙ length_outer e inner (length e.segments - 1 - i) hop (slice_index e.segments i)

pub length_encapsulated : (e : Encapsulation) (p : Packet) (hop : ℕ)
    → length (spelling (encapsulated e p hop)) ≡ header_bytes e.reduced (length e.segments) + length (spelling p)
length_encapsulated e p hop =
    length_at_segment e (spelling (inner_lowered p)) 0 hop
    ∙ ap (λ n. header_bytes e.reduced (length e.segments) + n) (length_spelling (inner_lowered p) ∙ sym (length_spelling p))

pub header_bytes_reduced : (n : ℕ) → 1 < n → header_bytes true n ≡ 32 + 16 * n
header_bytes_reduced n more = let many : nat_lt 1 n ≡ true = lt-ltb 1 n more in rw many refl
