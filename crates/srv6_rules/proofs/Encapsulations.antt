-- A packet in an outer header with a segment list: its bytes, its length and its chain.
use Rattle.std.proofs.Common.{◌≡◌, ℕ, ◌+◌, ◌-◌, ◌*◌, ◌/◌, ◌^◌, ◌<◌, ◌≤◌, Bool, true, false, not, ◌||◌, nat_lt, nat_le, if◌then◌else◌, List, [], ◌∷◌, ◌++◌, length, take, drop, reverse, slice_index, All, flat_map, refl, sym, ap, subst, ◌∙◌, arith, inl, inr, length-append, length-drop}
use Rattle.std.proofs.Math.Bool.{or-true}
use Rattle.std.proofs.lemmas.Bool.{cases_Bool, or_from, lt-ltb, ltb-true, le-ltb, le-leb, lt-leb}
use Rattle.std.proofs.lemmas.List.{append-nil, drop_all, drop_at, take_at, get_or-drop, get_or-reverse, length-reverse}
use Rattle.std.proofs.lemmas.List.Elements.{All-drop}
use Rattle.srv6_rules.specs.declared.reason.Reason.TheVariants as reasons
use Rattle.srv6_rules.specs.Behaviours.{ipv6_inside}
use Rattle.srv6_rules.specs.declared.numbers.TheConstants.{NEXT_HEADER_AT}
use Rattle.std.specs.Prelude.{None}
use Rattle.srv6_rules.specs.Packet.{Packet, header_len, two_bytes, two_number, address_bytes, address_number}
use Rattle.srv6_rules.specs.Srh.{Srh, srh_of, srh_spelling, entry_of, tlv_bytes}
use Rattle.srv6_rules.specs.Areas.{area_fault, tlv_fault, tlvs_fault}
use Rattle.srv6_rules.specs.Chain.{ChainPlace, Header, Chain, Upper, routing, is_extension, behind, from_place, chain_of}
use Rattle.srv6_rules.specs.ChainTerms.{chain_at}
use Rattle.srv6_rules.specs.Endpoint.{Onward, Refused, has_bad_segments, advanced, next_segment}
use Rattle.srv6_rules.specs.Encapsulation.{Encapsulation, segment_list, has_segment_routing, segment_routing_of, outer, header_bytes}
use Rattle.srv6_rules.specs.EncapsulationTerms.{header_of, inner_place}
use Rattle.srv6_rules.proofs.Bytes.{length_two_bytes, two_number_bytes}
use Rattle.srv6_rules.proofs.Headers.{length_srh_spelling, entry_at, length_entries}
use Rattle.srv6_rules.proofs.Chains.{chain_at_spelled, chain_at_upper}

-- ---- a segment routing header at the start of a payload

-- reading a header's spelling gives the header, also where its numbers are above what bytes can spell
pub srh_of_spelled : (s : Srh) → s.tag < 2 ^ 16 → length s.body ≡ 8 * s.extension_len → srh_of (srh_spelling s) ≡ s
srh_of_spelled s tag body =
    let number : two_number (two_bytes s.tag ++ s.body) ≡ s.tag = two_number_bytes s.tag s.body tag in
    let behind : drop 2 (two_bytes s.tag ++ s.body) ≡ s.body = drop_at (two_bytes s.tag) s.body 2 (length_two_bytes s.tag) in
    let whole : take (8 * s.extension_len) (drop 2 (two_bytes s.tag ++ s.body)) ≡ s.body =
    ap (take (8 * s.extension_len)) (behind ∙ sym (append-nil s.body)) ∙ take_at s.body [] (8 * s.extension_len) body in
    rw (number, whole) refl

-- where an outer packet's first header stands
abbrev pub outer_start : ℕ → ChainPlace
outer_start kind = record { at = header_len; kind = kind; named_at = NEXT_HEADER_AT }

-- the chain of a segment routing header and the upper layer after it
pub spelled_chain : (p : Packet) (s : Srh) (inner : List ℕ) → p.next_header ≡ routing → p.payload ≡ srh_spelling s ++ inner
    → length s.body ≡ 8 * s.extension_len → is_extension s.next_header ≡ false
    → chain_of p
    ≡ record {
      headers = record { place = outer_start routing; bytes = srh_spelling s } ∷ [];
      end = Upper (record { at = header_len + length (srh_spelling s); kind = s.next_header; named_at = header_len });
    }
unfolding chain_at
spelled_chain p s inner kind whole body upper =
    let h : Header = record { place = outer_start routing; bytes = srh_spelling s } in
    let q : ChainPlace = record { at = header_len + length (srh_spelling s); kind = s.next_header; named_at = header_len } in
    ap (λ k. chain_at p (outer_start k)) kind
    ∙ chain_at_spelled p header_len NEXT_HEADER_AT s inner (omega arith) body whole
    ∙ ap (behind h) (chain_at_upper p q (omega arith) upper)

-- the chain of an upper layer alone
pub bare_upper : (p : Packet) → is_extension p.next_header ≡ false
    → chain_of p ≡ record { headers = []; end = Upper (outer_start p.next_header) }
unfolding chain_at
bare_upper p upper = chain_at_upper p (outer_start p.next_header) (omega arith) upper

-- the step over a header with good segments and nothing after its entries
pub step_onward : (p : Packet) (at : ℕ) (s : Srh) → 1 < p.hop_limit → has_bad_segments s ≡ false → tlv_bytes s ≡ []
    → next_segment p at s ≡ Onward (advanced p at s)
step_onward p at s hop good none =
    let high : nat_le p.hop_limit 1 ≡ false = lt-leb p.hop_limit 1 hop in
    let no_fault : tlvs_fault at s ≡ None = ap (area_fault tlv_fault 0 (at + 8 + 16 * (s.last_entry + 1))) none in
    rw (high, good, no_fault) refl

pub step_hop_limit : (p : Packet) (at : ℕ) (s : Srh) → p.hop_limit ≤ 1 → next_segment p at s ≡ Refused reasons.HopLimit 0
step_hop_limit p at s hop =
    let low : nat_le p.hop_limit 1 ≡ true = le-leb p.hop_limit 1 hop in
    rw low refl

-- ---- the segment list

listed : Bool → List ℕ → List ℕ
listed reduced segments = reverse (if reduced then drop 1 segments else segments)

length_listed : (reduced : Bool) (segments : List ℕ)
    → length (listed reduced segments) ≡ (if reduced then length segments - 1 else length segments)
unfolding listed
length_listed true segments = length-reverse (drop 1 segments) ∙ length-drop 1 segments
length_listed false segments = length-reverse segments

-- the list lacks at most one segment
listed_most : (reduced : Bool) (segments : List ℕ) → length segments ≤ length (listed reduced segments) + 1
listed_most true segments = let len = length_listed true segments in omega arith
listed_most false segments = let len = length_listed false segments in omega arith

listed_no_more : (reduced : Bool) (segments : List ℕ) → length (listed reduced segments) ≤ length segments
listed_no_more true segments = let len = length_listed true segments in omega arith
listed_no_more false segments = let len = length_listed false segments in omega arith

-- the entry at a place is the segment at that place from the end, but for the first segment
listed_at : (reduced : Bool) (segments : List ℕ) (k : ℕ) → k + 1 < length segments
    → slice_index (listed reduced segments) k ≡ slice_index segments (length segments - 1 - k)
unfolding listed
listed_at true segments k below =
    let len = length-drop 1 segments in
    let place : 1 + (length (drop 1 segments) - 1 - k) ≡ length segments - 1 - k = omega arith in
    get_or-reverse (drop 1 segments) k 0 (omega arith)
    ∙ get_or-drop 1 segments (length (drop 1 segments) - 1 - k) 0
    ∙ ap (slice_index segments) place
listed_at false segments k below = get_or-reverse segments k 0 (omega arith)

All_reversed : (P : ℕ → Type 0) (xs : List ℕ) → All P xs → All P (reverse xs)
All_reversed P xs all = λ k d below.
    let len = length-reverse xs in
    let within : k < length xs = omega arith in
    let Q : ℕ → Type 0 = λ x. P x in
    subst Q (sym (get_or-reverse xs k d within)) (all (length xs - 1 - k) d (omega arith))

All_listed : (P : ℕ → Type 0) (reduced : Bool) (segments : List ℕ) → All P segments → All P (listed reduced segments)
unfolding listed
All_listed P true segments all = All_reversed P (drop 1 segments) (All-drop P 1 segments all)
All_listed P false segments all = All_reversed P segments all

-- the header bytes with a routing header and without
size_routed : (reduced many : Bool) (segments : List ℕ) → nat_lt 1 (length segments) ≡ many → (not reduced || many) ≡ true
    → 48 + 16 * length (listed reduced segments) ≡ header_bytes reduced (length segments)
size_routed true true segments is has =
    let more = ltb-true 1 (length segments) is in
    let len = length_listed true segments in
    rw is (omega arith)
size_routed true false segments is has = cc
size_routed false many segments is has = let len = length_listed false segments in omega arith

size_bare : (reduced many : Bool) (n : ℕ) → nat_lt 1 n ≡ many → (not reduced || many) ≡ false → 40 ≡ header_bytes reduced n
size_bare true true n is has = cc
size_bare true false n is has = rw is refl
size_bare false many n is has = cc

-- ---- the header of an encapsulation

module _ (e : Encapsulation) (left : ℕ) where
  pub length_body : length (segment_routing_of e left).body ≡ 8 * (segment_routing_of e left).extension_len
  length_body = length_entries (segment_list e) ∙ omega arith

  pub length_header : length (srh_spelling (segment_routing_of e left)) ≡ 8 + 16 * length (segment_list e)
  length_header = length_srh_spelling (segment_routing_of e left) ∙ ap (λ n. 8 + n) (length_entries (segment_list e))

  pub no_tlv_bytes : 0 < length (segment_list e) → tlv_bytes (segment_routing_of e left) ≡ []
  no_tlv_bytes some =
      let all : length (flat_map address_bytes (segment_list e)) ≡ 16 * length (segment_list e) = length_entries (segment_list e) in
      drop_all (16 * (length (segment_list e) - 1 + 1)) (flat_map address_bytes (segment_list e)) (omega arith)

  pub good_segments : 0 < length (segment_list e) → left ≤ length (segment_list e) → has_bad_segments (segment_routing_of e left) ≡ false
  good_segments some within =
      or_from (nat_lt (2 * length (segment_list e) / 2) (length (segment_list e) - 1 + 1)) (nat_lt (length (segment_list e) - 1 + 1) left)
      (le-ltb (2 * length (segment_list e) / 2) (length (segment_list e) - 1 + 1) (omega arith))
      (le-ltb (length (segment_list e) - 1 + 1) left (omega arith))

  pub read_back : srh_of (srh_spelling (segment_routing_of e left)) ≡ segment_routing_of e left
  read_back = srh_of_spelled (segment_routing_of e left) (omega arith) length_body

module _ (e : Encapsulation) where
  pub list_most : length e.segments ≤ length (segment_list e) + 1
  unfolding listed
  list_most = listed_most e.reduced e.segments

  pub list_no_more : length (segment_list e) ≤ length e.segments
  unfolding listed
  list_no_more = listed_no_more e.reduced e.segments

  pub list_at : (k : ℕ) → k + 1 < length e.segments → slice_index (segment_list e) k ≡ slice_index e.segments (length e.segments - 1 - k)
  unfolding listed
  list_at k below = listed_at e.reduced e.segments k below

  list_addresses : All (λ a. a < 2 ^ 128) e.segments → All (λ a. a < 2 ^ 128) (segment_list e)
  unfolding listed
  list_addresses all = All_listed (λ a. a < 2 ^ 128) e.reduced e.segments all

  -- two segments or more have a routing header
  pub more_routing : 1 < length e.segments → has_segment_routing e ≡ true
  more_routing more =
      let many : nat_lt 1 (length e.segments) ≡ true = lt-ltb 1 (length e.segments) more in
      ap (λ b. not e.reduced || b) many ∙ or-true (not e.reduced)

  -- the entry that is active next
  pub next_entry : (left : ℕ) → 0 < left → left < length e.segments → All (λ a. a < 2 ^ 128) e.segments
      → entry_of (segment_routing_of e left) (left - 1) ≡ slice_index e.segments (length e.segments - left)
  next_entry left some below all =
      let most = list_most in
      let place : length e.segments - 1 - (left - 1) ≡ length e.segments - left = omega arith in
      ap (λ xs. address_number (drop (16 * (left - 1)) xs)) (sym (append-nil (flat_map address_bytes (segment_list e))))
      ∙ entry_at (segment_list e) [] (left - 1) (omega arith) (list_addresses all)
      ∙ list_at (left - 1) (omega arith)
      ∙ ap (slice_index e.segments) place

-- ---- the packet

-- the outer packet with a next header and a payload
abbrev pub framed : Encapsulation → ℕ → List ℕ → ℕ → ℕ → Packet
framed e next payload hop destination =
    record {
      traffic_class = e.traffic_class;
      flow_label = e.flow_label;
      next_header = next;
      hop_limit = hop;
      source = e.source;
      destination = destination;
      payload = payload;
    }

module _ (e : Encapsulation) (inner : List ℕ) (left hop destination : ℕ) where
  pub outer_routed : has_segment_routing e ≡ true
      → outer e inner left hop destination ≡ framed e routing (srh_spelling (segment_routing_of e left) ++ inner) hop destination
  outer_routed has = rw has refl

  pub outer_bare : has_segment_routing e ≡ false → outer e inner left hop destination ≡ framed e ipv6_inside inner hop destination
  outer_bare has = rw has refl

  routed_chain : chain_of (framed e routing (srh_spelling (segment_routing_of e left) ++ inner) hop destination)
      ≡ record {
        headers = header_of e left ∷ [];
        end = Upper (record {
          at = header_len + length (srh_spelling (segment_routing_of e left));
          kind = ipv6_inside;
          named_at = header_len;
        });
      }
  routed_chain =
      spelled_chain (framed e routing (srh_spelling (segment_routing_of e left) ++ inner) hop destination) (segment_routing_of e left)
      inner refl refl (length_body e left) refl

  bare_chain : chain_of (framed e ipv6_inside inner hop destination) ≡ record { headers = []; end = Upper (outer_start ipv6_inside) }
  bare_chain = bare_upper (framed e ipv6_inside inner hop destination) refl

-- ---- the length, and the place of the packet inside

module _ (e : Encapsulation) where
  header_size : (left : ℕ) → has_segment_routing e ≡ true
      → 40 + length (srh_spelling (segment_routing_of e left)) ≡ header_bytes e.reduced (length e.segments)
  unfolding listed
  header_size left has =
      let len = length_header e left in
      let size = size_routed e.reduced (nat_lt 1 (length e.segments)) e.segments refl has in
      omega arith

  bare_size : has_segment_routing e ≡ false → 40 ≡ header_bytes e.reduced (length e.segments)
  bare_size has = size_bare e.reduced (nat_lt 1 (length e.segments)) (length e.segments) refl has

-- the packet without the inner one is its header bytes
pub length_outer : (e : Encapsulation) (inner : List ℕ) (left hop destination : ℕ)
    → 40 + length (outer e inner left hop destination).payload ≡ header_bytes e.reduced (length e.segments) + length inner
length_outer e inner left hop destination = elim (cases_Bool (has_segment_routing e)) [
  | inl has ↦
      let size = header_size e left has in
      let len = length-append (srh_spelling (segment_routing_of e left)) inner in
      ap (λ (p : Packet). 40 + length p.payload) (outer_routed e inner left hop destination has) ∙ omega arith
  | inr not ↦
      let size = bare_size e not in
      ap (λ (p : Packet). 40 + length p.payload) (outer_bare e inner left hop destination not) ∙ omega arith
]

-- after the headers the packet is the inner one
pub outer_inner : (e : Encapsulation) (inner : List ℕ) (left hop destination : ℕ)
    → from_place (outer e inner left hop destination) (inner_place e).at ≡ inner
outer_inner e inner left hop destination = elim (cases_Bool (has_segment_routing e)) [
  | inl has ↦
      let size = header_size e left has in
      let place : header_bytes e.reduced (length e.segments) - 40 ≡ length (srh_spelling (segment_routing_of e left)) = omega arith in
      ap (λ (p : Packet). drop (header_bytes e.reduced (length e.segments) - 40) p.payload) (outer_routed e inner left hop destination has)
      ∙ ap (λ n. drop n (srh_spelling (segment_routing_of e left) ++ inner)) place
      ∙ drop_at (srh_spelling (segment_routing_of e left)) inner (length (srh_spelling (segment_routing_of e left))) refl
  | inr not ↦
      let size = bare_size e not in
      let place : header_bytes e.reduced (length e.segments) - 40 ≡ 0 = omega arith in
      ap (λ (p : Packet). drop (header_bytes e.reduced (length e.segments) - 40) p.payload) (outer_bare e inner left hop destination not)
      ∙ ap (λ n. drop n inner) place
]

-- ---- the chain

-- the segment routing header where there is one
abbrev pub outer_headers : Encapsulation → ℕ → Bool → List Header
outer_headers e left has = if has then header_of e left ∷ [] else []

-- the place of the inner packet after so many bytes, where there is a segment routing header and where there is none
abbrev place_behind_outer : ℕ → Bool → ChainPlace
place_behind_outer at has = record { at = at; kind = ipv6_inside; named_at = if has then header_len else NEXT_HEADER_AT }

abbrev outer_chain : Encapsulation → ℕ → ℕ → Bool → Chain
outer_chain e left at has = record { headers = outer_headers e left has; end = Upper (place_behind_outer at has) }

-- the segment routing header where the form has one, and the packet inside after the header bytes
pub outer_chain_law : (e : Encapsulation) (inner : List ℕ) (left hop destination : ℕ)
    → chain_of (outer e inner left hop destination)
    ≡ record { headers = if has_segment_routing e then header_of e left ∷ [] else []; end = Upper (inner_place e) }
outer_chain_law e inner left hop destination = elim (cases_Bool (has_segment_routing e)) [
  | inl has ↦
      let size : header_len + length (srh_spelling (segment_routing_of e left)) ≡ header_bytes e.reduced (length e.segments) =
      header_size e left has in
      ap (λ (p : Packet). chain_of p) (outer_routed e inner left hop destination has)
      ∙ routed_chain e inner left hop destination
      ∙ ap (λ n. outer_chain e left n true) size
      ∙ ap (outer_chain e left (header_bytes e.reduced (length e.segments))) (sym has)
  | inr not ↦
      let size : header_len ≡ header_bytes e.reduced (length e.segments) = bare_size e not in
      ap (λ (p : Packet). chain_of p) (outer_bare e inner left hop destination not)
      ∙ bare_chain e inner left hop destination
      ∙ ap (λ n. outer_chain e left n false) size
      ∙ ap (outer_chain e left (header_bytes e.reduced (length e.segments))) (sym not)
]
