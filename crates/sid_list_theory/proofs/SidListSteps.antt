-- What a SID does with a packet that is on its way in a tunnel.
use Rattle.std.proofs.Common.{◌≡◌, ℕ, ◌+◌, ◌-◌, ◌*◌, Bool, true, false, if◌then◌else◌, List, [], ◌∷◌, ◌++◌, length, take, drop, flat_map, refl, sym, ◌∙◌, ap, arith}
use Rattle.std.proofs.lemmas.List.{append-nil, drop_at, take_at}
use Rattle.srv6_rules.specs.declared.numbers.TheConstants.{NEXT_HEADER_AT}
use Rattle.srv6_rules.specs.declared.family.Family.{Family}
use Rattle.srv6_rules.specs.declared.family.Family.TheVariants.{V6, V4}
use Rattle.srv6_rules.specs.declared.sid.SidEntry.{SidEntry}
use Rattle.srv6_rules.specs.Behaviours.{family_inside}
use Rattle.srv6_rules.specs.Packet.{Packet, header_len, two_bytes, two_number, address_bytes}
use Rattle.srv6_rules.specs.Srh.{srh_of, srh_spelling}
use Rattle.srv6_rules.specs.Chain.{ChainPlace, Header, Chain, Upper, routing, is_extension, behind, from_place, chain_of, without}
use Rattle.srv6_rules.specs.CompressedSteps.{compression_of, is_replace, shifts}
use Rattle.srv6_rules.specs.Endpoint.{Endpoint, Onward, Exposed, Delivered, Refused, as_in, outcome_without, next_csid, over_headers, at_header, at_upper, at_last_upper, at_end, at_sid, at_whole_segments, at_packed_segments}
use Rattle.srv6_rules.specs.Encapsulation.{segment_list}
use Rattle.srv6_rules.specs.Policies.{inner_kind}
use Rattle.srv6_rules.proofs.PublicLaws.{length_entries, chain_of_start, chain_at_spelled, chain_at_upper, at_header_shifts, at_header_whole, at_header_packed}
use Rattle.sid_list_theory.specs.ListPlaces.{Tunnel, header_with, on_way, inner_at}

-- ---- the packet's chain

-- the routing header of a packet on its way, and the place of the packet inside
abbrev pub header_in : Tunnel → ℕ → Header
header_in t left =
    record {
      place = record { at = header_len; kind = routing; named_at = NEXT_HEADER_AT };
      bytes = srh_spelling (header_with t left);
    }

abbrev pub upper_at : Tunnel → Bool → ChainPlace
upper_at t routed =
    record { at = inner_at t routed; kind = inner_kind t.inner; named_at = if routed then header_len else NEXT_HEADER_AT }

upper_kind : (inner : Family) → is_extension (inner_kind inner) ≡ false
upper_kind V6 = refl
upper_kind V4 = refl

pub own_family : (inner : Family) → family_inside (inner_kind inner) ≡ inner
own_family V6 = refl
own_family V4 = refl

module _ (t : Tunnel) where
  length_body : (left : ℕ) → length (header_with t left).body ≡ 8 * (header_with t left).extension_len
  length_body left = length_entries (segment_list t.encapsulation) ∙ omega arith

  length_header : (left : ℕ) → length (srh_spelling (header_with t left)) ≡ 8 + 16 * length (segment_list t.encapsulation)
  unfolding two_bytes
  length_header left = let n = length_entries (segment_list t.encapsulation) in omega (arith, n)

  pub read_back : (left : ℕ) → srh_of (srh_spelling (header_with t left)) ≡ header_with t left
  unfolding two_bytes two_number
  read_back left =
      let body : List ℕ = flat_map address_bytes (segment_list t.encapsulation) in
      let whole : take (8 * (2 * length (segment_list t.encapsulation))) body ≡ body =
      ap (take (8 * (2 * length (segment_list t.encapsulation)))) (sym (append-nil body))
      ∙ take_at body [] (8 * (2 * length (segment_list t.encapsulation))) (length_body left) in
      ap (λ xs. record (header_with t left) { body = xs }) whole

module _ (t : Tunnel) (left hop destination : ℕ) where
  chain_routed : chain_of (on_way t true left hop destination)
      ≡ record { headers = header_in t left ∷ []; end = Upper (upper_at t true) }
  chain_routed =
      let p : Packet = on_way t true left hop destination in
      let q : ChainPlace =
      record { at = header_len + length (srh_spelling (header_with t left)); kind = inner_kind t.inner; named_at = header_len } in
      let size : header_len + length (srh_spelling (header_with t left)) ≡ inner_at t true =
      (let n = length_header t left in omega arith) in
      chain_of_start p
      ∙ chain_at_spelled p header_len NEXT_HEADER_AT (header_with t left) t.bytes (omega arith) (length_body t left) refl
      ∙ ap (behind (header_in t left)) (chain_at_upper p q (omega arith) (upper_kind t.inner))
      ∙ ap (λ n. record {
        headers = header_in t left ∷ [];
        end = Upper (record { at = n; kind = inner_kind t.inner; named_at = header_len });
      }) size

  chain_bare : chain_of (on_way t false left hop destination) ≡ record { headers = []; end = Upper (upper_at t false) }
  chain_bare =
      let p : Packet = on_way t false left hop destination in
      chain_of_start p ∙ chain_at_upper p (upper_at t false) (omega arith) (upper_kind t.inner)

  inner_routed : from_place (on_way t true left hop destination) (inner_at t true) ≡ t.bytes
  inner_routed =
      let n = length_header t left in
      let place : inner_at t true - header_len ≡ length (srh_spelling (header_with t left)) = omega arith in
      ap (λ k. drop k (srh_spelling (header_with t left) ++ t.bytes)) place
      ∙ drop_at (srh_spelling (header_with t left)) t.bytes (length (srh_spelling (header_with t left))) refl

pub inner_bytes : (t : Tunnel) (routed : Bool) (left hop destination : ℕ)
    → from_place (on_way t routed left hop destination) (inner_at t routed) ≡ t.bytes
inner_bytes t true left hop destination = inner_routed t left hop destination
inner_bytes t false left hop destination = refl

-- ---- at a SID

module _ (s : SidEntry) (allow : List ℕ) (t : Tunnel) (left hop destination : ℕ) where
  at_routed : at_sid s allow (on_way t true left hop destination)
      ≡ at_header s (on_way t true left hop destination) (header_in t left)
      (at_upper s allow (on_way t true left hop destination) (upper_at t true))
  at_routed =
      let p : Packet = on_way t true left hop destination in
      ap (λ (c : Chain). over_headers (at_header s p) c.headers (at_end s allow p c.end)) (chain_routed t left hop destination)

  at_bare : at_sid s allow (on_way t false left hop destination)
      ≡ at_upper s allow (on_way t false left hop destination) (upper_at t false)
  at_bare =
      let p : Packet = on_way t false left hop destination in
      ap (λ (c : Chain). over_headers (at_header s p) c.headers (at_end s allow p c.end)) (chain_bare t left hop destination)

pub header_out : (t : Tunnel) (was left hop destination : ℕ)
    → outcome_without (header_in t was) (Onward (on_way t true left hop destination)) ≡ Onward (on_way t false left hop destination)
header_out t was left hop destination =
    let header : List ℕ = srh_spelling (header_with t left) in
    let p : Packet = on_way t true left hop destination in
    let own : as_in p (header_in t was) ≡ header_in t left =
    ap (λ xs. record { place = (header_in t was).place; bytes = xs }) (take_at header t.bytes (length (header_in t was).bytes) refl) in
    let size : header_len - header_len + length header ≡ length header = omega arith in
    ap (λ h. Onward (without p h)) own
    ∙ ap (λ n. Onward (record (on_way t false left hop destination) { payload = drop n (header ++ t.bytes) })) size
    ∙ ap (λ xs. Onward (record (on_way t false left hop destination) { payload = xs })) (drop_at header t.bytes (length header) refl)

-- the same of a packet that is handed over
pub header_out_delivered : (t : Tunnel) (was left hop destination : ℕ)
    → outcome_without (header_in t was) (Delivered (on_way t true left hop destination)) ≡ Delivered (on_way t false left hop destination)
header_out_delivered t was left hop destination =
    let unwrap : Endpoint → Endpoint = elim [
      | Onward q ↦ Delivered q
      | Exposed family bytes ↦ Exposed family bytes
      | Delivered q ↦ Delivered q
      | Refused reason at ↦ Refused reason at
    ] in
    ap unwrap (header_out t was left hop destination)

-- a SID that shifts does so with the header and without it
pub at_shifts : (s : SidEntry) (allow : List ℕ) (t : Tunnel) (routed : Bool) (left hop destination : ℕ)
    → shifts (compression_of s) destination ≡ true
    → at_sid s allow (on_way t routed left hop destination) ≡ next_csid s (on_way t routed left hop destination)
at_shifts s allow t true left hop destination is =
    let p : Packet = on_way t true left hop destination in
    at_routed s allow t left hop destination
    ∙ at_header_shifts s p (header_in t left) (at_upper s allow p (upper_at t true)) is refl
at_shifts s allow t false left hop destination is = at_bare s allow t left hop destination ∙ rw is refl

-- ---- where it doesn't shift

module _ (s : SidEntry) (allow : List ℕ) (t : Tunnel) (left hop destination : ℕ)
    (still : shifts (compression_of s) destination ≡ false) where
  -- what comes of the upper layer
  abbrev pub upper : Bool → Endpoint
  upper routed = at_last_upper s allow (on_way t routed left hop destination) (upper_at t routed)

  upper_still : (routed : Bool)
      → at_upper s allow (on_way t routed left hop destination) (upper_at t routed) ≡ upper routed
  upper_still routed = rw still refl

  pub at_unrouted : at_sid s allow (on_way t false left hop destination) ≡ upper false
  at_unrouted = at_bare s allow t left hop destination ∙ upper_still false

  pub at_whole : is_replace s.csid ≡ false → at_sid s allow (on_way t true left hop destination)
      ≡ at_whole_segments s (on_way t true left hop destination) (header_in t left) (upper true)
  at_whole whole =
      let p : Packet = on_way t true left hop destination in
      at_routed s allow t left hop destination
      ∙ ap (at_header s p (header_in t left)) (upper_still true)
      ∙ at_header_whole s p (header_in t left) (upper true) (record { whole = whole; unshifted = still }) refl

  pub at_packed : is_replace s.csid ≡ true → at_sid s allow (on_way t true left hop destination)
      ≡ at_packed_segments s (on_way t true left hop destination) (header_in t left) (upper true)
  at_packed packed =
      let p : Packet = on_way t true left hop destination in
      at_routed s allow t left hop destination
      ∙ ap (at_header s p (header_in t left)) (upper_still true)
      ∙ at_header_packed s p (header_in t left) (upper true) packed still refl
