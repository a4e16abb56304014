-- The packet that a policy's header makes: its lengths, and what stands where.
use Rattle.std.proofs.Common.{◌≡◌, ℕ, ◌+◌, ◌-◌, ◌*◌, ◌^◌, ◌<◌, ◌≤◌, Bool, true, false, if◌then◌else◌, List, [], ◌∷◌, ◌++◌, length, map, flat_map, drop, slice_index, All, refl, sym, ap, subst, ◌∙◌, arith, inl, inr, length-append}
use Rattle.std.proofs.lemmas.Bool.{cases_lt, lt-ltb, le-ltb, le-leb, lt-leb}
use Rattle.std.proofs.lemmas.List.{length-map, drop_at, append_assoc}
use Rattle.std.proofs.lemmas.List.Elements.{All-cons, All-tail}
use Rattle.v6_addr.specs.declared.address.Addr.{Addr}
use Rattle.srv6_rules.specs.declared.policy.Policy.{Policy}
use Rattle.srv6_rules.specs.declared.family.Family.{Family}
use Rattle.srv6_rules.specs.declared.family.Family.TheVariants.{V6, V4}
use Rattle.srv6_rules.specs.Packet.{Packet, IsSpellable, most_len, header_spelling, spelling, two_bytes, address_bytes}
use Rattle.srv6_rules.specs.Srh.{Srh, srh_spelling, segment_routing}
use Rattle.srv6_rules.specs.Chain.{routing}
use Rattle.srv6_rules.specs.Behaviours.{ipv6_inside}
use Rattle.srv6_rules.specs.Encapsulation.{Encapsulation, segment_list, has_segment_routing, outer, pushed, header_bytes}
use Rattle.srv6_rules.specs.EncapsulationTerms.{IsSpellableEncapsulation}
use Rattle.srv6_rules.specs.Policies.{encapsulation_by, outer_by, inner_kind, routing_header, pushed_round, most_payload, Outer, TooBig, InnerHop, unless_too_big, headend_by, pushed_by}
use Rattle.srv6_rules.proofs.PacketPackets.{length_spelling}
use Rattle.srv6_rules.proofs.Encapsulations.{length_outer}
use Rattle.srv6_rules.proofs.EncapsulationForms.{at_segment_spellable}

-- ---- a header's first byte, which names what stands after it

kinds_length : (has : Bool) (k m : ℕ) (rest bytes : List ℕ)
    → length (if has then (k ∷ rest) ++ bytes else bytes) ≡ length (if has then (m ∷ rest) ++ bytes else bytes)
kinds_length true k m rest bytes = refl
kinds_length false k m rest bytes = refl

kinds_bytes : (has : Bool) (k m : ℕ) (rest bytes : List ℕ) → k < 2 ^ 8
    → All (λ b. b < 2 ^ 8) (if has then (m ∷ rest) ++ bytes else bytes)
    → All (λ b. b < 2 ^ 8) (if has then (k ∷ rest) ++ bytes else bytes)
kinds_bytes true k m rest bytes small all =
    All-cons (λ b. b < 2 ^ 8) k (rest ++ bytes) small (All-tail (λ b. b < 2 ^ 8) m (rest ++ bytes) all)
kinds_bytes false k m rest bytes small all = all

kinds_front : (has : Bool) (front bytes : List ℕ) → (if has then front ++ bytes else bytes) ≡ (if has then front else []) ++ bytes
kinds_front true front bytes = refl
kinds_front false front bytes = refl

small_kind : (inner : Family) → inner_kind inner < 2 ^ 8
small_kind V6 = omega arith
small_kind V4 = omega arith

small_next : (has : Bool) (inner : Family) → (if has then routing else inner_kind inner) < 2 ^ 8
small_next true inner = omega arith
small_next false inner = small_kind inner

-- the bytes of the segment routing header, none where the form has none
abbrev pub front_of : Encapsulation → Family → List ℕ
front_of e inner = if has_segment_routing e then srh_spelling (routing_header e inner) else []

-- a segment routing header's bytes after its first
abbrev behind_kind : Srh → List ℕ
behind_kind s = s.extension_len ∷ segment_routing ∷ s.segments_left ∷ s.last_entry ∷ s.flags ∷ (two_bytes s.tag ++ s.body)

module _ (e : Encapsulation) (inner : Family) (bytes : List ℕ) (hop : ℕ) where
  pub round_front : (pushed_round e inner bytes hop).payload ≡ front_of e inner ++ bytes
  round_front = kinds_front (has_segment_routing e) (srh_spelling (routing_header e inner)) bytes

  -- the packet of an inner IPv6 packet, with its Segments Left
  abbrev pushed_v6 : Packet
  pushed_v6 = outer e bytes (length e.segments - 1) hop (slice_index e.segments 0)

  pub pushed_left : pushed e bytes hop ≡ pushed_v6
  pushed_left =
      let left : length e.segments - 1 - 0 ≡ length e.segments - 1 = omega arith in
      ap (λ n. outer e bytes n hop (slice_index e.segments 0)) left

  same_length : length (pushed_round e inner bytes hop).payload ≡ length pushed_v6.payload
  same_length =
      kinds_length (has_segment_routing e) (inner_kind inner) ipv6_inside (behind_kind (routing_header e inner)) bytes

  pub round_payload : 40 + length (pushed_round e inner bytes hop).payload ≡ header_bytes e.reduced (length e.segments) + length bytes
  round_payload = ap (λ n. 40 + n) same_length ∙ length_outer e bytes (length e.segments - 1) hop (slice_index e.segments 0)

  pub round_length : length (spelling (pushed_round e inner bytes hop)) ≡ header_bytes e.reduced (length e.segments) + length bytes
  round_length = length_spelling (pushed_round e inner bytes hop) ∙ round_payload

  pub round_next_header : (pushed_round e inner bytes hop).next_header < 2 ^ 8
  round_next_header = small_next (has_segment_routing e) inner

  pub round_spellable : IsSpellableEncapsulation e → hop < 2 ^ 8 → All (λ b. b < 2 ^ 8) bytes
      → header_bytes e.reduced (length e.segments) + length bytes ≤ most_len → IsSpellable (pushed_round e inner bytes hop)
  round_spellable ok small all short =
      let same = same_length in
      let P : Packet → Type 0 = λ p. IsSpellable p in
      let v6 : IsSpellable pushed_v6 = subst P pushed_left (at_segment_spellable e bytes 0 hop ok small all short) in
      record {
        traffic_class = v6.traffic_class;
        flow_label = v6.flow_label;
        next_header = round_next_header;
        hop_limit = v6.hop_limit;
        source = v6.source;
        destination = v6.destination;
        payload_len = omega (arith, same, v6.payload_len);
        payload = kinds_bytes (has_segment_routing e) (inner_kind inner) ipv6_inside (behind_kind (routing_header e inner)) bytes
            (small_kind inner) v6.payload;
      }

-- the bytes in front of the inner packet's
round_split : (e : Encapsulation) (inner : Family) (bytes : List ℕ) (hop : ℕ)
    → spelling (pushed_round e inner bytes hop)
    ≡ (header_spelling (pushed_round e inner bytes hop) ++ front_of e inner) ++ bytes
round_split e inner bytes hop =
    let p : Packet = pushed_round e inner bytes hop in
    ap (λ xs. header_spelling p ++ xs) (round_front e inner bytes hop) ∙ sym (append_assoc (header_spelling p) (front_of e inner) bytes)

-- the inner bytes after that front
pub round_behind : (e : Encapsulation) (inner : Family) (bytes : List ℕ) (hop n : ℕ)
    → n + length bytes ≡ length (spelling (pushed_round e inner bytes hop))
    → drop n (spelling (pushed_round e inner bytes hop)) ≡ bytes
round_behind e inner bytes hop n place =
    let front : List ℕ = header_spelling (pushed_round e inner bytes hop) ++ front_of e inner in
    let split = round_split e inner bytes hop in
    let len : length (spelling (pushed_round e inner bytes hop)) ≡ length front + length bytes =
    ap length split ∙ length-append front bytes in
    ap (drop n) split ∙ drop_at front bytes n (omega (arith, len))

-- ---- what comes of it

pub made_fits : (p : Packet) → length p.payload ≤ 65535 → unless_too_big p ≡ Outer p
made_fits p fits = rw (le-ltb most_payload (length p.payload) fits) refl

pub made_big : (p : Packet) → 65535 < length p.payload → unless_too_big p ≡ TooBig (length p.payload)
made_big p big = rw (lt-ltb most_payload (length p.payload) big) refl

module _ (policy : Policy) (inner : Family) (hop : ℕ) (lowered : List ℕ) where
  pub headend_low : hop ≤ 1 → headend_by policy inner hop lowered ≡ InnerHop
  headend_low low = rw (le-leb hop 1 low) refl

  pub headend_high : 1 < hop → headend_by policy inner hop lowered ≡ pushed_by policy policy.reduced inner lowered
  headend_high high = rw (lt-leb hop 1 high) refl

-- ---- the laws

module _ (policy : Policy) (reduced : Bool) (inner : Family) (bytes : List ℕ) where
  abbrev size : ℕ
  size = header_bytes reduced (length policy.segments)

  values_length : header_bytes reduced (length (map (λ (a : Addr). a.value) policy.segments)) ≡ size
  values_length = ap (header_bytes reduced) (length-map policy.segments (λ (a : Addr). a.value))

  pub by_length : length (spelling (outer_by policy reduced inner bytes)) ≡ size + length bytes
  by_length = round_length (encapsulation_by policy reduced) inner bytes policy.hop_limit ∙ ap (λ n. n + length bytes) values_length

  pub by_payload : 40 + length (outer_by policy reduced inner bytes).payload ≡ size + length bytes
  by_payload = round_payload (encapsulation_by policy reduced) inner bytes policy.hop_limit ∙ ap (λ n. n + length bytes) values_length

  pub by_inner : drop size (spelling (outer_by policy reduced inner bytes)) ≡ bytes
  by_inner = round_behind (encapsulation_by policy reduced) inner bytes policy.hop_limit size (sym by_length)

  pub by_fits : size + length bytes ≤ most_len → pushed_by policy reduced inner bytes ≡ Outer (outer_by policy reduced inner bytes)
  by_fits short = made_fits (outer_by policy reduced inner bytes) (omega (arith, by_payload))

  pub by_big : (n : ℕ) → 65535 < n → 40 + n ≡ size + length bytes → pushed_by policy reduced inner bytes ≡ TooBig n
  by_big n big is =
      let same : length (outer_by policy reduced inner bytes).payload ≡ n = omega (arith, by_payload) in
      made_big (outer_by policy reduced inner bytes) (omega (arith, same)) ∙ ap TooBig same

  pub by_only_big : (n : ℕ) → pushed_by policy reduced inner bytes ≡ TooBig n → (65535 < n) × (40 + n ≡ size + length bytes)
  by_only_big n told = elim (cases_lt 65535 (length (outer_by policy reduced inner bytes).payload)) [
    | inl big ↦
        let same : length (outer_by policy reduced inner bytes).payload ≡ n =
        big_length (sym (made_big (outer_by policy reduced inner bytes) big) ∙ told) in
        (omega (arith, same), omega (arith, same, by_payload))
    | inr fits ↦ cc (sym (made_fits (outer_by policy reduced inner bytes) fits) ∙ told)
  ]
    where
      big_length : {m k : ℕ} → TooBig m ≡ TooBig k → m ≡ k
      big_length e = cc

pub headend_only_low : (policy : Policy) (inner : Family) (hop : ℕ) (lowered : List ℕ)
    → headend_by policy inner hop lowered ≡ InnerHop → hop ≤ 1
headend_only_low policy inner hop lowered told = elim (cases_lt 1 hop) [
  | inl high ↦
      elim (cases_lt 65535 (length (outer_by policy policy.reduced inner lowered).payload)) [
        | inl big ↦
            cc (sym (headend_high policy inner hop lowered high ∙ made_big (outer_by policy policy.reduced inner lowered) big) ∙ told)
        | inr fits ↦
            cc (sym (headend_high policy inner hop lowered high ∙ made_fits (outer_by policy policy.reduced inner lowered) fits) ∙ told)
      ]
  | inr low ↦ low
]

-- the parts of the outer packet
pub round_with_header : (e : Encapsulation) (inner : Family) (bytes : List ℕ) (hop : ℕ) → has_segment_routing e ≡ true
    → ((pushed_round e inner bytes hop).next_header ≡ routing)
    × ((pushed_round e inner bytes hop).payload ≡ srh_spelling (routing_header e inner) ++ bytes)
round_with_header e inner bytes hop has = (rw has refl, rw has refl)

pub round_without_header : (e : Encapsulation) (inner : Family) (bytes : List ℕ) (hop : ℕ) → has_segment_routing e ≡ false
    → ((pushed_round e inner bytes hop).next_header ≡ inner_kind inner) × ((pushed_round e inner bytes hop).payload ≡ bytes)
round_without_header e inner bytes hop has = (rw has refl, rw has refl)

pub round_header_bytes : (e : Encapsulation) (inner : Family) → srh_spelling (routing_header e inner)
    ≡ inner_kind inner ∷ (2 * length (segment_list e)) ∷ 4 ∷ (length e.segments - 1) ∷ (length (segment_list e) - 1) ∷ 0 ∷ 0 ∷ 0 ∷
    flat_map address_bytes (segment_list e)
unfolding two_bytes
round_header_bytes e inner = refl

-- round an IPv6 packet it is the encapsulation's
pub round_ipv6 : (e : Encapsulation) (bytes : List ℕ) (hop : ℕ) → pushed_round e V6 bytes hop ≡ pushed e bytes hop
round_ipv6 e bytes hop = sym (pushed_left e V6 bytes hop)
