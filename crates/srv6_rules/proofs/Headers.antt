-- A segment routing header's spelling read back, and a header in bytes spelled.
use Rattle.std.proofs.Common.{◌≡◌, ℕ, zero, suc, ◌+◌, ◌*◌, ◌^◌, ◌<◌, ◌≤◌, List, [], ◌∷◌, ◌++◌, length, take, drop, slice_index, slice_set, All, flat_map, refl, sym, ap, ◌∙◌, arith, take-add, length-append, length-drop}
use Rattle.std.proofs.lemmas.List.{append_assoc, drop_at, drop-drop, drop_more, take_at, length-take-le}
use Rattle.std.proofs.lemmas.List.Elements.{All-append, All-cons, All-head, All-tail, All-take, All-drop}
use Rattle.srv6_rules.specs.Packet.{two_bytes, two_number, address_bytes, address_number}
use Rattle.srv6_rules.specs.Srh.{Srh, srh_of, srh_spelling, segment_routing}
use Rattle.srv6_rules.specs.SrhTerms.{IsSrhSpellable}
use Rattle.srv6_rules.proofs.Bytes.{length_two_bytes, all_two_bytes, two_number_below, two_number_bytes, two_bytes_number, byte_below, length_address_bytes, address_number_bytes}

-- reading a header's spelling gives the header, whatever stands after it
pub srh_of_spelling : (s : Srh) (rest : List ℕ) → IsSrhSpellable s → srh_of (srh_spelling s ++ rest) ≡ s
srh_of_spelling s rest h =
    let tail : (two_bytes s.tag ++ s.body) ++ rest ≡ two_bytes s.tag ++ (s.body ++ rest) = append_assoc (two_bytes s.tag) s.body rest in
    let tag : two_number ((two_bytes s.tag ++ s.body) ++ rest) ≡ s.tag = ap two_number tail
    ∙ two_number_bytes s.tag (s.body ++ rest) h.tag in
    let front : drop 2 ((two_bytes s.tag ++ s.body) ++ rest) ≡ s.body ++ rest = ap (drop 2) tail
    ∙ drop_at (two_bytes s.tag) (s.body ++ rest) 2 (length_two_bytes s.tag) in
    let body : take (8 * s.extension_len) (drop 2 ((two_bytes s.tag ++ s.body) ++ rest)) ≡ s.body = ap (take (8 * s.extension_len)) front
    ∙ take_at s.body rest (8 * s.extension_len) h.body_len in
    rw (tag, body) refl

pub length_srh_spelling : (s : Srh) → length (srh_spelling s) ≡ 8 + length s.body
length_srh_spelling s =
    let whole = length-append (two_bytes s.tag) s.body in
    let tag = length_two_bytes s.tag in
    omega (arith, whole, tag)

-- each byte of a spelling is below 256
pub all_srh_spelling : (s : Srh) → IsSrhSpellable s → All (λ b. b < 2 ^ 8) (srh_spelling s)
all_srh_spelling s h =
    let P : ℕ → Type 0 = λ b. b < 2 ^ 8 in
    let tail = All-append P (two_bytes s.tag) s.body (all_two_bytes s.tag) h.body in
    let e5 = All-cons P s.flags (two_bytes s.tag ++ s.body) h.flags tail in
    let e4 = All-cons P s.last_entry (s.flags ∷ (two_bytes s.tag ++ s.body)) h.last_entry e5 in
    let e3 = All-cons P s.segments_left (s.last_entry ∷ s.flags ∷ (two_bytes s.tag ++ s.body)) h.segments_left e4 in
    let e2 = All-cons P segment_routing (s.segments_left ∷ s.last_entry ∷ s.flags ∷ (two_bytes s.tag ++ s.body)) (omega arith) e3 in
    let e1 = All-cons P s.extension_len
    (segment_routing ∷ s.segments_left ∷ s.last_entry ∷ s.flags ∷ (two_bytes s.tag ++ s.body)) h.extension_len e2 in
    All-cons P s.next_header (s.extension_len ∷ segment_routing ∷ s.segments_left ∷ s.last_entry ∷ s.flags ∷
    (two_bytes s.tag ++ s.body)) h.next_header e1

-- ---- a header in bytes

-- the first six bytes, one by one
six_bytes : (bytes : List ℕ) → 6 ≤ length bytes
    → bytes
    ≡ slice_index bytes 0 ∷ slice_index bytes 1 ∷ slice_index bytes 2 ∷ slice_index bytes 3 ∷ slice_index bytes 4 ∷ slice_index bytes 5 ∷
    drop 6 bytes
six_bytes bytes h =
    let e0 = drop_more bytes 0 0 (omega arith) in
    let e1 = drop_more bytes 1 0 (omega arith) in
    let e2 = drop_more bytes 2 0 (omega arith) in
    let e3 = drop_more bytes 3 0 (omega arith) in
    let e4 = drop_more bytes 4 0 (omega arith) in
    let e5 = drop_more bytes 5 0 (omega arith) in
    cc

-- a header in bytes has the one spelling
pub srh_spelling_srh_of : (bytes : List ℕ) → All (λ b. b < 2 ^ 8) bytes → 8 ≤ length bytes → slice_index bytes 2 ≡ segment_routing
    → srh_spelling (srh_of bytes) ≡ take (8 + 8 * slice_index bytes 1) bytes
srh_spelling_srh_of bytes all long kind =
    let P : ℕ → Type 0 = λ b. b < 2 ^ 8 in
    let n : ℕ = 8 * slice_index bytes 1 in
    let tag : two_bytes (two_number (drop 6 bytes))
    ≡ take 2 (drop 6 bytes) = two_bytes_number (drop 6 bytes) (omega (arith, length-drop 6 bytes)) (All-drop P 6 bytes all) in
    let behind : two_bytes (two_number (drop 6 bytes)) ++ take n (drop 8 bytes) ≡ take (2 + n) (drop 6 bytes) =
    ap (λ xs. xs ++ take n (drop 8 bytes)) tag ∙ ap (λ xs. take 2 (drop 6 bytes) ++ take n xs) (sym (drop-drop 2 6 bytes))
    ∙ sym (take-add 2 n (drop 6 bytes)) in
    let whole = six_bytes bytes (omega arith) in
    let split : take (6 + (2 + n)) bytes ≡ take 6 bytes ++ take (2 + n) (drop 6 bytes) = take-add 6 (2 + n) bytes in
    let front : take 6 bytes
    ≡ slice_index bytes 0 ∷ slice_index bytes 1 ∷ slice_index bytes 2 ∷ slice_index bytes 3 ∷ slice_index bytes 4 ∷ slice_index bytes 5 ∷
    [] = ap (take 6) whole in
    let sum : 8 + n ≡ 6 + (2 + n) = omega arith in
    rw (behind, sum, split, front, kind) refl

-- a header in bytes can be spelled
pub srh_of_spellable : (bytes : List ℕ) → All (λ b. b < 2 ^ 8) bytes → 8 + 8 * slice_index bytes 1 ≤ length bytes
    → IsSrhSpellable (srh_of bytes)
srh_of_spellable bytes all long =
    let P : ℕ → Type 0 = λ b. b < 2 ^ 8 in
    record {
      next_header = byte_below bytes 0 all;
      extension_len = byte_below bytes 1 all;
      segments_left = byte_below bytes 3 all;
      last_entry = byte_below bytes 4 all;
      flags = byte_below bytes 5 all;
      tag = two_number_below (drop 6 bytes) (All-drop P 6 bytes all);
      body_len = length-take-le (8 * slice_index bytes 1) (drop 8 bytes) (omega (arith, length-drop 8 bytes));
      body = All-take P (8 * slice_index bytes 1) (drop 8 bytes) (All-drop P 8 bytes all);
    }

-- ---- the segment list in a header

-- the entry at a place of addresses that stand one after the other
pub entry_at : (list : List ℕ) (more : List ℕ) (i : ℕ) → i < length list → All (λ a. a < 2 ^ 128) list
    → address_number (drop (16 * i) (flat_map address_bytes list ++ more)) ≡ slice_index list i
entry_at [] more i below all = absurd (omega arith)
entry_at (a ∷ list) more zero below all =
    let P : ℕ → Type 0 = λ x. x < 2 ^ 128 in
    ap address_number (append_assoc (address_bytes a) (flat_map address_bytes list) more)
    ∙ address_number_bytes a (flat_map address_bytes list ++ more) (All-head P a list all)
entry_at (a ∷ list) more (suc i) below all =
    let P : ℕ → Type 0 = λ x. x < 2 ^ 128 in
    let whole : List ℕ = (address_bytes a ++ flat_map address_bytes list) ++ more in
    let sum : 16 * suc i ≡ 16 + 16 * i = omega arith in
    let behind : drop 16 whole ≡ flat_map address_bytes list ++ more =
    ap (drop 16) (append_assoc (address_bytes a) (flat_map address_bytes list) more)
    ∙ drop_at (address_bytes a) (flat_map address_bytes list ++ more) 16 (length_address_bytes a) in
    ap (λ n. address_number (drop n whole)) sum
    ∙ ap address_number (sym (drop-drop (16 * i) 16 whole) ∙ ap (drop (16 * i)) behind)
    ∙ entry_at list more i (omega arith) (All-tail P a list all)

pub length_entries : (list : List ℕ) → length (flat_map address_bytes list) ≡ 16 * length list
length_entries [] = refl
length_entries (a ∷ list) =
    let one = length_address_bytes a in
    let rest = length_entries list in
    let sum = length-append (address_bytes a) (flat_map address_bytes list) in
    omega (arith, one, rest, sum)

-- Segments Left is the header's byte 3
pub left_set : (s : Srh) (rest : List ℕ) (v : ℕ)
    → slice_set (srh_spelling s ++ rest) 3 v ≡ srh_spelling (record s { segments_left = v }) ++ rest
left_set s rest v = refl
