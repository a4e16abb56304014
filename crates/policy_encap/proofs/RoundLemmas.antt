-- The packet that a policy's header makes, by the segments that its segment list has.
use Rattle.std.proofs.Common.{◌≡◌, ℕ, ◌+◌, ◌-◌, ◌*◌, ◌<◌, Bool, true, false, ◌==◌, if◌then◌else◌, List, [], ◌∷◌, ◌++◌, length, map, reverse, slice_index, get_or, flat_map, refl, sym, ap, ◌∙◌, arith, inl, inr, length-drop}
use Rattle.std.proofs.lemmas.Bool.{cases_lt, lt-ltb, le-ltb, eq-eqb, ne_eqb}
use Rattle.std.proofs.lemmas.List.{drop-map, length-map, reverse-reverse, reverse-append, map-append, get_or-map}
use Rattle.v6_addr.specs.declared.address.Addr.{Addr}
use Rattle.srv6_rules.specs.declared.policy.Policy.{Policy}
use Rattle.srv6_rules.specs.declared.family.Family.{Family}
use Rattle.srv6_rules.specs.Packet.{Packet, address_bytes}
use Rattle.srv6_rules.specs.Srh.{Srh, srh_spelling}
use Rattle.srv6_rules.specs.Chain.{routing}
use Rattle.srv6_rules.specs.Encapsulation.{Encapsulation, segment_list, has_segment_routing, header_bytes}
use Rattle.srv6_rules.specs.Policies.{encapsulation_by, inner_kind, outer_by}
use Rattle.srv6_rules.proofs.PublicLaws.{by_payload}
use Rattle.srh_codec.specs.Writing.{numbers_of, header_over}
use Rattle.policy_encap.specs.PolicyHeaders.{listed, framed, routing_bytes}

-- addresses as numbers, in reverse order
pub numbers_reverse : (list : List Addr) → numbers_of (reverse list) ≡ reverse (numbers_of list)
numbers_reverse [] = refl
numbers_reverse (a ∷ list) =
    ap numbers_of (reverse-append (a ∷ []) list)
    ∙ map-append (λ (x : Addr). x.value) (reverse list) (a ∷ [])
    ∙ ap (λ xs. xs ++ a.value ∷ []) (numbers_reverse list)
    ∙ sym (reverse-append (a.value ∷ []) (numbers_of list))

-- the segment list of a policy
listed_numbers : (policy : Policy) (reduced : Bool)
    → segment_list (encapsulation_by policy reduced) ≡ reverse (numbers_of (listed policy reduced))
listed_numbers policy true = ap reverse (drop-map (λ (a : Addr). a.value) 1 policy.segments)
listed_numbers policy false = refl

length_listed : (policy : Policy) (reduced : Bool)
    → length (listed policy reduced) ≡ (if reduced then length policy.segments - 1 else length policy.segments)
length_listed policy true = length-drop 1 policy.segments
length_listed policy false = refl

has_routing : (policy : Policy) (reduced : Bool) → 0 < length (listed policy reduced)
    → has_segment_routing (encapsulation_by policy reduced) ≡ true
has_routing policy true some =
    let len = length_listed policy true in
    let same = length-map policy.segments (λ (a : Addr). a.value) in
    lt-ltb 1 (length (map (λ (a : Addr). a.value) policy.segments)) (omega arith)
has_routing policy false some = refl

-- the header over entries, field by field
abbrev header_on : ℕ → ℕ → List ℕ → Srh
header_on kind left list =
    record {
      next_header = kind;
      extension_len = 2 * length list;
      segments_left = left;
      last_entry = length list - 1;
      flags = 0;
      tag = 0;
      body = flat_map address_bytes list;
    }

module _ (policy : Policy) (reduced : Bool) (inner : Family) (bytes : List ℕ) where
  -- the outer packet with a segment routing header or without one, with these Segments Left and segment list
  shaped : Bool → ℕ → List ℕ → Packet
  shaped has left list =
      framed policy (if has then routing else inner_kind inner)
      (if has then srh_spelling (header_on (inner_kind inner) left list) ++ bytes else bytes)

  by_shape : outer_by policy reduced inner bytes
      ≡ shaped (has_segment_routing (encapsulation_by policy reduced)) (length (numbers_of policy.segments) - 1)
      (segment_list (encapsulation_by policy reduced))
  unfolding shaped
  by_shape = refl

  -- with a segment routing header
  pub round_routed : 0 < length (listed policy reduced)
      → outer_by policy reduced inner bytes
      ≡ framed policy routing
      (srh_spelling (header_over (inner_kind inner) (length policy.segments - 1) (reverse (numbers_of (listed policy reduced)))) ++ bytes)
  unfolding shaped
  round_routed some =
      let e : Encapsulation = encapsulation_by policy reduced in
      let entries : List ℕ = reverse (numbers_of (listed policy reduced)) in
      let left : length (numbers_of policy.segments) - 1 ≡ length policy.segments - 1 =
      ap (λ n. n - 1) (length-map policy.segments (λ (a : Addr). a.value)) in
      let list : segment_list e ≡ reverse (reverse entries) = listed_numbers policy reduced ∙ sym (reverse-reverse entries) in
      by_shape
      ∙ ap (λ b. shaped b (length (numbers_of policy.segments) - 1) (segment_list e)) (has_routing policy reduced some)
      ∙ ap (λ n. shaped true n (segment_list e)) left
      ∙ ap (shaped true (length policy.segments - 1)) list

-- the bytes in front of the inner packet, by the segments that are listed
listed_bytes : (reduced : Bool) (n m : ℕ) → 0 < n → m ≡ (if reduced then n - 1 else n)
    → header_bytes reduced n ≡ 40 + (if m == 0 then 0 else 8 + 16 * m)
listed_bytes true n m some is = elim (cases_lt 1 n) [
  | inl more ↦ let many = lt-ltb 1 n more in let full = ne_eqb m 0 (omega arith) in rw (many, full) (omega arith)
  | inr one ↦ let few = le-ltb 1 n one in let none = eq-eqb m 0 (omega arith) in rw (few, none) (omega arith)
]
listed_bytes false n m some is = let full = ne_eqb m 0 (omega arith) in rw full (omega arith)

pub round_len : (policy : Policy) (reduced : Bool) (inner : Family) (bytes : List ℕ) → 0 < length policy.segments
    → routing_bytes (listed policy reduced) + length bytes ≡ length (outer_by policy reduced inner bytes).payload
round_len policy reduced inner bytes some =
    let size = listed_bytes reduced (length policy.segments) (length (listed policy reduced)) some (length_listed policy reduced) in
    let whole = by_payload policy reduced inner bytes in
    omega (arith, size, whole)

-- ---- the outer header

pub first_segment : (policy : Policy) (list : List Addr) → 0 < length policy.segments → list ≡ policy.segments
    → (get_or {A = Addr} list 0 (record { value = 0 })).value ≡ slice_index (map (λ (a : Addr). a.value) policy.segments) 0
first_segment policy list some is =
    ap (λ (xs : List Addr). (get_or {A = Addr} xs 0 (record { value = 0 })).value) is
    ∙ sym (get_or-map (λ (a : Addr). a.value) policy.segments 0 (record { value = 0 }) 0 some)
