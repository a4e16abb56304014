-- A header taken out of a packet's bytes.
use Rattle.std.proofs.Common.{◌≡◌, ◌⊎◌, inl, inr, ℕ, ◌+◌, ◌-◌, ◌^◌, ◌<◌, ◌≤◌, true, false, List, [], ◌∷◌, ◌++◌, length, take, drop, slice_index, slice_set, refl, sym, ap, ◌∙◌, arith, length-drop, length-append}
use Rattle.std.proofs.Math.Seq.{take-append-add, drop-append-add}
use Rattle.std.proofs.lemmas.Bool.{eq-eqb, ne_eqb}
use Rattle.std.proofs.lemmas.List.{append_assoc, take_at, drop_at, length-take-le, take_all, length-set, set-append_right, get_or-take, get_or-drop}
use Rattle.std.proofs.lemmas.List.Elements.{All-take, All-drop}
use Rattle.srv6_rules.specs.declared.numbers.TheConstants.{NEXT_HEADER_AT}
use Rattle.srv6_rules.specs.Packet.{Packet, IsSpellable, header_len, spelling, header_spelling, first_word, two_bytes, four_bytes, address_bytes, packet_at, stated_len}
use Rattle.srv6_rules.specs.PacketTerms.{Spells}
use Rattle.srv6_rules.specs.Chain.{ChainPlace, Header, cut_out, without, is_first}
use Rattle.srv6_rules.proofs.PublicLaws.{length_spelling, length_two_bytes, length_four_bytes, length_address_bytes, edit_payload, without_bytes}
use Rattle.ip6_headers.proofs.PublicLaws.{holds_spellable, holds_front}
use Rattle.endpoint_chain.specs.Outcomes.{HoldsAlone}
use Rattle.endpoint_chain.specs.Removal.{with_payload_len}

-- ---- a header's fields

length_header : (p : Packet) → length (header_spelling p) ≡ 40
unfolding header_spelling
length_header p = simp (length-append, length_four_bytes, length_two_bytes, length_address_bytes)

-- the value that names what stands after
pub edit_next_header : (p : Packet) (x : ℕ) → slice_set (spelling p) 6 x ≡ spelling (record p { next_header = x })
unfolding header_spelling
edit_next_header p x =
    let four : List ℕ = four_bytes (first_word p.traffic_class p.flow_label) in
    let two : List ℕ = two_bytes (length p.payload) in
    let rest : List ℕ = address_bytes p.source ++ (address_bytes p.destination ++ p.payload) in
    let laid : spelling p ≡ four ++ (two ++ (p.next_header ∷ p.hop_limit ∷ rest)) = simp append_assoc in
    let after : four ++ (two ++ (x ∷ p.hop_limit ∷ rest)) ≡ spelling (record p { next_header = x }) = simp append_assoc in
    ap (λ xs. slice_set xs 6 x) laid
    ∙ set-append_right four (two ++ (p.next_header ∷ p.hop_limit ∷ rest)) 4 6 x
    (length_four_bytes (first_word p.traffic_class p.flow_label)) (omega arith)
    ∙ ap (λ ys. four ++ ys) (set-append_right two (p.next_header ∷ p.hop_limit ∷ rest) 2 2 x (length_two_bytes (length p.payload))
    (omega arith))
    ∙ after

-- the payload length, in front of another payload
edit_payload_len : (p : Packet) (ys : List ℕ) → with_payload_len (length ys) (header_spelling p ++ ys)
    ≡ spelling (record p { payload = ys })
unfolding header_spelling
edit_payload_len p ys =
    let four : List ℕ = four_bytes (first_word p.traffic_class p.flow_label) in
    let two : List ℕ = two_bytes (length p.payload) in
    let rest : List ℕ = p.next_header ∷ p.hop_limit ∷ (address_bytes p.source ++ (address_bytes p.destination ++ ys)) in
    let word = length_four_bytes (first_word p.traffic_class p.flow_label) in
    let front : header_spelling p ++ ys ≡ four ++ (two ++ rest) = simp append_assoc in
    let back : header_spelling p ++ ys ≡ (four ++ two) ++ rest = simp append_assoc in
    let six : length (four ++ two) ≡ 6 = simp (length-append, length_four_bytes, length_two_bytes) in
    let after : four ++ (two_bytes (length ys) ++ rest) ≡ spelling (record p { payload = ys }) = simp append_assoc in
    ap (λ xs. take 4 xs ++ (two_bytes (length ys) ++ drop 6 (header_spelling p ++ ys))) front
    ∙ ap (λ xs. xs ++ (two_bytes (length ys) ++ drop 6 (header_spelling p ++ ys))) (take_at four (two ++ rest) 4 word)
    ∙ ap (λ xs. four ++ (two_bytes (length ys) ++ drop 6 xs)) back
    ∙ ap (λ xs. four ++ (two_bytes (length ys) ++ xs)) (drop_at (four ++ two) rest 6 six)
    ∙ after

-- its two bytes, one by one
pub set_two : (xs bs : List ℕ) → 6 ≤ length xs → length bs ≡ 2
    → slice_set (slice_set xs 4 (slice_index bs 0)) 5 (slice_index bs 1) ≡ take 4 xs ++ (bs ++ drop 6 xs)
set_two (x0 ∷ x1 ∷ x2 ∷ x3 ∷ x4 ∷ x5 ∷ rest) (b0 ∷ b1 ∷ []) long two = refl
set_two (x0 ∷ x1 ∷ x2 ∷ x3 ∷ x4 ∷ x5 ∷ rest) (b0 ∷ b1 ∷ b2 ∷ bs) long two = absurd (omega arith)
set_two (x0 ∷ x1 ∷ x2 ∷ x3 ∷ x4 ∷ x5 ∷ rest) (b0 ∷ []) long two = absurd (omega arith)
set_two (x0 ∷ x1 ∷ x2 ∷ x3 ∷ x4 ∷ x5 ∷ rest) [] long two = absurd (omega arith)
set_two (x0 ∷ x1 ∷ x2 ∷ x3 ∷ x4 ∷ []) bs long two = absurd (omega arith)
set_two (x0 ∷ x1 ∷ x2 ∷ x3 ∷ []) bs long two = absurd (omega arith)
set_two (x0 ∷ x1 ∷ x2 ∷ []) bs long two = absurd (omega arith)
set_two (x0 ∷ x1 ∷ []) bs long two = absurd (omega arith)
set_two (x0 ∷ []) bs long two = absurd (omega arith)
set_two [] bs long two = absurd (omega arith)

-- ---- bytes cut out after the header

cut_behind : (head ys : List ℕ) (at n : ℕ) → length head ≡ 40 → 40 ≤ at → at + n ≤ 40 + length ys
    → cut_out at n (head ++ ys) ≡ head ++ cut_out (at - 40) n ys
cut_behind head ys at n long behind within =
    let front : take at (head ++ ys) ≡ head ++ take (at - 40) ys =
    ap (λ k. take k (head ++ ys)) (omega arith) ∙ take-append-add head ys (at - 40) in
    let back : drop (at + n) (head ++ ys) ≡ drop (at - 40 + n) ys =
    ap (λ k. drop k (head ++ ys)) (omega arith) ∙ drop-append-add head ys (at - 40 + n) in
    ap (λ xs. xs ++ drop (at + n) (head ++ ys)) front
    ∙ ap (λ xs. (head ++ take (at - 40) ys) ++ xs) back
    ∙ append_assoc head (take (at - 40) ys) (drop (at - 40 + n) ys)

-- ---- a packet alone in its bytes

module _ (bytes : List ℕ) (alone : HoldsAlone bytes) where
  pub alone_spelled : bytes ≡ spelling (packet_at bytes)
  alone_spelled =
      let long = alone.alone in
      sym (take_all (header_len + stated_len bytes) bytes (omega arith)) ∙ holds_front bytes alone.holds

  pub alone_spellable : IsSpellable (packet_at bytes)
  alone_spellable = holds_spellable bytes alone.holds

  pub alone_length : length bytes ≡ header_len + length (packet_at bytes).payload
  alone_length = ap length alone_spelled ∙ length_spelling (packet_at bytes)

  pub alone_most : length bytes < header_len + 2 ^ 16
  alone_most = let len = alone_length in let fits = alone_spellable.payload_len in omega arith

-- ---- the three writes

module _ (bytes : List ℕ) (place : ChainPlace) (len : ℕ) (alone : HoldsAlone bytes) (behind : header_len ≤ place.at)
    (earlier : place.named_at < place.at) (some : 1 ≤ len) (within : place.at + len ≤ length bytes) where
  abbrev p : Packet
  p = packet_at bytes

  abbrev h : Header
  h = record { place = place; bytes = take len (drop place.at bytes) }

  abbrev x : ℕ
  x = slice_index bytes place.at

  header_long : length h.bytes ≡ len
  header_long = length-take-le len (drop place.at bytes) (omega (arith, length-drop place.at bytes))

  first_byte : slice_index h.bytes 0 ≡ x
  first_byte =
      let zero : place.at + 0 ≡ place.at = omega arith in
      get_or-take len (drop place.at bytes) 0 0 (omega arith) ∙ get_or-drop place.at bytes 0 0 ∙ ap (slice_index bytes) zero

  out_spellable : IsSpellable (without p h)
  out_spellable =
      let P : ℕ → Type 0 = λ b. b < 2 ^ 8 in
      let all = alone_length bytes alone in
      let long = header_long in
      without_bytes p h (alone_spellable bytes alone) behind (omega arith)
      (All-take P len (drop place.at bytes) (All-drop P place.at bytes alone.holds.in_range))

  -- what is left of a packet whose header names what stands after, once the bytes are cut out and the length is written
  written : (q : Packet) (named cut : List ℕ) (m : ℕ) → named ≡ spelling q → length q.payload ≡ length p.payload
      → cut ≡ take place.at named ++ drop (place.at + len) named → m ≡ length cut - 40
      → with_payload_len m cut ≡ spelling (record q { payload = cut_out (place.at - header_len) len q.payload })
  written q named cut m is same at_cut length_is =
      let all = alone_length bytes alone in
      let ys : List ℕ = cut_out (place.at - header_len) len q.payload in
      let head = length_header q in
      let there : cut ≡ header_spelling q ++ ys =
      at_cut ∙ ap (cut_out place.at len) is ∙ cut_behind (header_spelling q) q.payload place.at len head behind (omega arith) in
      let long : m ≡ length ys = length_is ∙ ap (λ (xs : List ℕ). length xs - 40) there
      ∙ ap (λ n. n - 40) (length-append (header_spelling q) ys ∙ ap (λ n. n + length ys) head) ∙ omega arith in
      ap (λ xs. with_payload_len m xs) there ∙ ap (λ n. with_payload_len n (header_spelling q ++ ys)) long ∙ edit_payload_len q ys

  first_out : place.named_at ≡ NEXT_HEADER_AT → (named cut : List ℕ) (m : ℕ) → named ≡ slice_set bytes place.named_at x
      → cut ≡ take place.at named ++ drop (place.at + len) named → m ≡ length cut - 40
      → with_payload_len m cut ≡ spelling (without p h)
  first_out first named cut m is at_cut length_is =
      let q : Packet = record p { next_header = x } in
      let set : named ≡ spelling q = is ∙ ap (λ k. slice_set bytes k x) first ∙ ap (λ xs. slice_set xs 6 x) (alone_spelled bytes alone)
      ∙ edit_next_header p x in
      let test : is_first h.place ≡ true = eq-eqb place.named_at NEXT_HEADER_AT first in
      let long = header_long in
      let byte = first_byte in
      written q named cut m set refl at_cut length_is
      ∙ rw (test, long, byte) refl

  later_out : header_len ≤ place.named_at → (named cut : List ℕ) (m : ℕ) → named ≡ slice_set bytes place.named_at x
      → cut ≡ take place.at named ++ drop (place.at + len) named → m ≡ length cut - 40
      → with_payload_len m cut ≡ spelling (without p h)
  later_out later named cut m is at_cut length_is =
      let k : ℕ = place.named_at - header_len in
      let q : Packet = record p { payload = slice_set p.payload k x } in
      let sum : place.named_at ≡ 40 + k = omega arith in
      let set : named ≡ spelling q = is ∙ ap (λ i. slice_set bytes i x) sum ∙ ap (λ xs. slice_set xs (40 + k) x) (alone_spelled bytes alone)
      ∙ sym (edit_payload p k x) in
      let test : is_first h.place ≡ false = ne_eqb place.named_at NEXT_HEADER_AT (omega arith) in
      let long = header_long in
      let byte = first_byte in
      written q named cut m set (length-set p.payload k x) at_cut length_is
      ∙ rw (test, long, byte) refl

  pub taken_out : (place.named_at ≡ NEXT_HEADER_AT) ⊎ (header_len ≤ place.named_at) → (named cut new : List ℕ) (m : ℕ)
      → named ≡ slice_set bytes place.named_at x → cut ≡ take place.at named ++ drop (place.at + len) named → m ≡ length cut - 40
      → new ≡ with_payload_len m cut
      → Spells new (without p h)
  taken_out (inl first) named cut new m is at_cut length_is write = (out_spellable, write ∙ first_out first named cut m is at_cut length_is)
  taken_out (inr later) named cut new m is at_cut length_is write = (out_spellable, write ∙ later_out later named cut m is at_cut length_is)
