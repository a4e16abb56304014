-- What the bytes of a packet read as where those of one field are others.
use Rattle.std.proofs.Common.{◌≡◌, ℕ, ◌+◌, ◌^◌, ◌<◌, ◌≤◌, Bool, true, false, cond, List, [], ◌∷◌, ◌++◌, length, take, drop, slice_index, slice_set, refl, sym, ap, ◌∙◌, arith, length-append, length-drop}
use Rattle.std.proofs.lemmas.Bool.{eq-eqb, ne_eqb, eqb-true, le-ltb, lt-ltb, ltb-false}
use Rattle.std.proofs.lemmas.List.{append-nil, append_assoc, drop_at, drop-drop, drop_more, get_or-drop, get_or-take, get_or_append_left, length-take-le, set-append_right, take_at, take-append-drop}
use Rattle.std.specs.Prelude.{◌/◌, ◌%◌, ◌==◌, nat_lt}
use Rattle.byteorder.specs.Endian.{big_number, big_bytes}
use Rattle.byteorder.specs.Numbers.{big_number-reads_back, length-bytes_high_first}
use Rattle.srv6_rules.specs.declared.reason.Reason.TheVariants.{Truncated, BadVersion}
use Rattle.srv6_rules.specs.Packet.{Packet, V6, Unreadable, content_of, packet_at, stated_len, header_len, two_bytes, address_bytes, two_number, four_number, address_number}
use Rattle.srv6_rules.proofs.PublicLaws.{two_number_append, four_number_append, address_number_append}

-- ---- the parts of at least 40 bytes: of 4, 2, 1, 1, 16 and 16 bytes, and what stands after them

unfoldable laid : List ℕ → List ℕ → ℕ → ℕ → List ℕ → List ℕ → List ℕ → List ℕ
laid a b n h s d r = a ++ (b ++ (n ∷ h ∷ (s ++ (d ++ r))))

record AreParts (a b s d : List ℕ) : Type 0 where
  word : length a ≡ 4
  stated : length b ≡ 2
  source : length s ≡ 16
  destination : length d ≡ 16

module _ (a b : List ℕ) (n h : ℕ) (s d r : List ℕ) (are : AreParts a b s d) where
  drop4_laid : drop 4 (laid a b n h s d r) ≡ b ++ (n ∷ h ∷ (s ++ (d ++ r)))
  unfolding laid
  drop4_laid = drop_at a (b ++ (n ∷ h ∷ (s ++ (d ++ r)))) 4 are.word

  drop6_laid : drop 6 (laid a b n h s d r) ≡ n ∷ h ∷ (s ++ (d ++ r))
  drop6_laid = sym (drop-drop 2 4 (laid a b n h s d r)) ∙ ap (drop 2) drop4_laid ∙ drop_at b (n ∷ h ∷ (s ++ (d ++ r))) 2 are.stated

  drop8_laid : drop 8 (laid a b n h s d r) ≡ s ++ (d ++ r)
  drop8_laid = sym (drop-drop 2 6 (laid a b n h s d r)) ∙ ap (drop 2) drop6_laid

  drop24_laid : drop 24 (laid a b n h s d r) ≡ d ++ r
  drop24_laid = sym (drop-drop 16 8 (laid a b n h s d r)) ∙ ap (drop 16) drop8_laid ∙ drop_at s (d ++ r) 16 are.source

  drop40_laid : drop 40 (laid a b n h s d r) ≡ r
  drop40_laid = sym (drop-drop 16 24 (laid a b n h s d r)) ∙ ap (drop 16) drop24_laid ∙ drop_at d r 16 are.destination

  take4_laid : take 4 (laid a b n h s d r) ≡ a
  unfolding laid
  take4_laid = take_at a (b ++ (n ∷ h ∷ (s ++ (d ++ r)))) 4 are.word

  six_laid : slice_index (laid a b n h s d r) 6 ≡ n
  six_laid = sym (get_or-drop 6 (laid a b n h s d r) 0 0) ∙ ap (λ xs. slice_index xs 0) drop6_laid

  seven_laid : slice_index (laid a b n h s d r) 7 ≡ h
  seven_laid = sym (get_or-drop 6 (laid a b n h s d r) 1 0) ∙ ap (λ xs. slice_index xs 1) drop6_laid

  first_laid : slice_index (laid a b n h s d r) 0 ≡ slice_index a 0
  unfolding laid
  first_laid = let word = are.word in get_or_append_left a (b ++ (n ∷ h ∷ (s ++ (d ++ r)))) 0 0 (omega arith)

  length_laid : length (laid a b n h s d r) ≡ 40 + length r
  unfolding laid
  length_laid =
      let word = are.word in let stated = are.stated in let source = are.source in let destination = are.destination in
      simp length-append (omega arith)

  four_laid : four_number (laid a b n h s d r) ≡ four_number a
  unfolding laid
  four_laid = let word = are.word in four_number_append a (b ++ (n ∷ h ∷ (s ++ (d ++ r)))) (omega arith)

  stated_laid : stated_len (laid a b n h s d r) ≡ two_number b
  unfolding stated_len
  stated_laid = let stated = are.stated in ap two_number drop4_laid ∙ two_number_append b (n ∷ h ∷ (s ++ (d ++ r))) (omega arith)

  source_laid : address_number (drop 8 (laid a b n h s d r)) ≡ address_number s
  source_laid = let source = are.source in ap address_number drop8_laid ∙ address_number_append s (d ++ r) (omega arith)

  destination_laid : address_number (drop 24 (laid a b n h s d r)) ≡ address_number d
  destination_laid = let destination = are.destination in ap address_number drop24_laid ∙ address_number_append d r (omega arith)

  -- ---- one part changed

  set6_laid : (x : ℕ) → slice_set (laid a b n h s d r) 6 x ≡ laid a b x h s d r
  unfolding laid
  set6_laid x =
      set-append_right a (b ++ (n ∷ h ∷ (s ++ (d ++ r)))) 4 6 x are.word (omega arith)
      ∙ ap (λ ys. a ++ ys) (set-append_right b (n ∷ h ∷ (s ++ (d ++ r))) 2 2 x are.stated (omega arith))

  set7_laid : (x : ℕ) → slice_set (laid a b n h s d r) 7 x ≡ laid a b n x s d r
  unfolding laid
  set7_laid x =
      set-append_right a (b ++ (n ∷ h ∷ (s ++ (d ++ r)))) 4 7 x are.word (omega arith)
      ∙ ap (λ ys. a ++ ys) (set-append_right b (n ∷ h ∷ (s ++ (d ++ r))) 2 3 x are.stated (omega arith))

  put4_laid : (w : List ℕ) → take 4 (laid a b n h s d r) ++ (w ++ drop 6 (laid a b n h s d r)) ≡ laid a w n h s d r
  unfolding laid
  put4_laid w = ap (λ xs. take 4 (laid a b n h s d r) ++ (w ++ xs)) drop6_laid
      ∙ ap (λ xs. xs ++ (w ++ (n ∷ h ∷ (s ++ (d ++ r))))) take4_laid

  front24_laid : laid a b n h s d r ≡ (a ++ (b ++ (n ∷ h ∷ s))) ++ (d ++ r)
  unfolding laid
  front24_laid = simp append_assoc

  put24_laid : (w : List ℕ) → take 24 (laid a b n h s d r) ++ (w ++ drop 40 (laid a b n h s d r)) ≡ laid a b n h s w r
  unfolding laid
  put24_laid w =
      let word = are.word in let stated = are.stated in let source = are.source in
      let front : take 24 (laid a b n h s d r) ≡ a ++ (b ++ (n ∷ h ∷ s)) =
      ap (take 24) front24_laid ∙ take_at (a ++ (b ++ (n ∷ h ∷ s))) (d ++ r) 24 (simp length-append (omega arith)) in
      ap (λ xs. take 24 (laid a b n h s d r) ++ (w ++ xs)) drop40_laid
      ∙ ap (λ xs. xs ++ (w ++ r)) front
      ∙ simp append_assoc

  -- ---- what the parts read as

  packet_of : Packet
  packet_of = record {
    traffic_class = four_number a / 2 ^ 20 % 2 ^ 8;
    flow_label = four_number a % 2 ^ 20;
    next_header = n;
    hop_limit = h;
    source = address_number s;
    destination = address_number d;
    payload = take (two_number b) r;
  }

  packet_laid : packet_at (laid a b n h s d r) ≡ packet_of
  unfolding packet_at packet_of
  packet_laid = rw (four_laid, six_laid, seven_laid, source_laid, destination_laid, stated_laid, drop40_laid) refl

  first_is : slice_index a 0 / 16 ≡ 6 → ((slice_index (laid a b n h s d r) 0 / 16) == 6) ≡ true
  first_is version = eq-eqb (slice_index (laid a b n h s d r) 0 / 16) 6 (ap (λ k. k / 16) first_laid ∙ version)

  content_laid : slice_index a 0 / 16 ≡ 6 → two_number b ≤ length r → content_of (laid a b n h s d r) ≡ V6 packet_of
  content_laid version fits =
      let long = length_laid in
      let stated = stated_laid in
      let some : (length (laid a b n h s d r) == 0) ≡ false = ne_eqb (length (laid a b n h s d r)) 0 (λ e. omega arith) in
      let six = first_is version in
      let header : nat_lt (length (laid a b n h s d r)) 40 ≡ false = le-ltb (length (laid a b n h s d r)) 40 (omega arith) in
      let all : nat_lt (length (laid a b n h s d r)) (40 + stated_len (laid a b n h s d r)) ≡ false =
      le-ltb (length (laid a b n h s d r)) (40 + stated_len (laid a b n h s d r)) (omega arith) in
      rw (some, six, header, all) (ap V6 packet_laid)

  short_laid : slice_index a 0 / 16 ≡ 6 → length r < two_number b
      → content_of (laid a b n h s d r) ≡ Unreadable (laid a b n h s d r) Truncated
  short_laid version short =
      let long = length_laid in
      let stated = stated_laid in
      let some : (length (laid a b n h s d r) == 0) ≡ false = ne_eqb (length (laid a b n h s d r)) 0 (λ e. omega arith) in
      let six = first_is version in
      let header : nat_lt (length (laid a b n h s d r)) 40 ≡ false = le-ltb (length (laid a b n h s d r)) 40 (omega arith) in
      let cut : nat_lt (length (laid a b n h s d r)) (40 + stated_len (laid a b n h s d r)) ≡ true =
      lt-ltb (length (laid a b n h s d r)) (40 + stated_len (laid a b n h s d r)) (omega arith) in
      rw (some, six, header, cut) refl

-- ---- bytes in their parts

split : (i n : ℕ) (xs : List ℕ) → drop i xs ≡ take n (drop i xs) ++ drop (i + n) xs
split i n xs = sym (take-append-drop n (drop i xs)) ∙ ap (λ ys. take n (drop i xs) ++ ys) (drop-drop n i xs)

are_parts : (xs : List ℕ) → 40 ≤ length xs → AreParts (take 4 xs) (take 2 (drop 4 xs)) (take 16 (drop 8 xs)) (take 16 (drop 24 xs))
are_parts xs long = record {
  word = length-take-le 4 xs (omega arith);
  stated = length-take-le 2 (drop 4 xs) (omega (arith, length-drop 4 xs));
  source = length-take-le 16 (drop 8 xs) (omega (arith, length-drop 8 xs));
  destination = length-take-le 16 (drop 24 xs) (omega (arith, length-drop 24 xs));
}

laid_parts : (xs : List ℕ) → 40 ≤ length xs
    → xs
    ≡ laid (take 4 xs) (take 2 (drop 4 xs)) (slice_index xs 6) (slice_index xs 7) (take 16 (drop 8 xs)) (take 16 (drop 24 xs)) (drop 40 xs)
unfolding laid
laid_parts xs long =
    let e8 = split 8 16 xs ∙ ap (λ ys. take 16 (drop 8 xs) ++ ys) (split 24 16 xs) in
    let e7 = drop_more xs 7 0 (omega arith) ∙ ap (λ ys. slice_index xs 7 ∷ ys) e8 in
    let e6 = drop_more xs 6 0 (omega arith) ∙ ap (λ ys. slice_index xs 6 ∷ ys) e7 in
    let e4 = split 4 2 xs ∙ ap (λ ys. take 2 (drop 4 xs) ++ ys) e6 in
    sym (take-append-drop 4 xs) ∙ ap (λ ys. take 4 xs ++ ys) e4

-- bytes that read hold what their header states, and the packet is what stands there
record Reads (bytes : List ℕ) (p : Packet) : Type 0 where
  version : slice_index bytes 0 / 16 ≡ 6
  whole : 40 + stated_len bytes ≤ length bytes
  packet : packet_at bytes ≡ p

reads_by_tests : (bytes : List ℕ) (p : Packet) (empty six short cut : Bool)
    → length bytes == 0 ≡ empty → (slice_index bytes 0 / 16) == 6 ≡ six → nat_lt (length bytes) 40 ≡ short
    → nat_lt (length bytes) (40 + stated_len bytes) ≡ cut
    → cond empty (Unreadable bytes Truncated)
    (cond six (cond short (Unreadable bytes Truncated) (cond cut (Unreadable bytes Truncated) (V6 (packet_at bytes))))
    (Unreadable bytes BadVersion)) ≡ V6 p
    → Reads bytes p
reads_by_tests bytes p true six short cut e1 e2 e3 e4 e = cc
reads_by_tests bytes p false false short cut e1 e2 e3 e4 e = cc
reads_by_tests bytes p false true true cut e1 e2 e3 e4 e = cc
reads_by_tests bytes p false true false true e1 e2 e3 e4 e = cc
reads_by_tests bytes p false true false false e1 e2 e3 e4 e =
    record { version = eqb-true (slice_index bytes 0 / 16) 6 e2; whole = ltb-false (length bytes) (40 + stated_len bytes) e4; packet = cc }

reads : (bytes : List ℕ) (p : Packet) → content_of bytes ≡ V6 p → Reads bytes p
reads bytes p e = reads_by_tests bytes p (length bytes == 0) ((slice_index bytes 0 / 16) == 6) (nat_lt (length bytes) 40)
    (nat_lt (length bytes) (40 + stated_len bytes)) refl refl refl refl e

-- ---- numbers

length_two_bytes : (n : ℕ) → length (two_bytes n) ≡ 2
unfolding two_bytes
length_two_bytes n = length-bytes_high_first 2 n

length_address_bytes : (a : ℕ) → length (address_bytes a) ≡ 16
unfolding address_bytes
length_address_bytes a = length-bytes_high_first 16 a

two_back : (n : ℕ) → n < 2 ^ 16 → two_number (two_bytes n) ≡ n
unfolding two_number two_bytes
two_back n h = ap (λ xs. big_number 2 xs) (sym (append-nil (big_bytes 2 n))) ∙ big_number-reads_back 2 n [] h

address_back : (a : ℕ) → a < 2 ^ 128 → address_number (address_bytes a) ≡ a
unfolding address_number address_bytes
address_back a h = ap (λ xs. big_number 16 xs) (sym (append-nil (big_bytes 16 a))) ∙ big_number-reads_back 16 a [] h

-- ---- a packet in bytes, one field changed

module _ (xs : List ℕ) (p : Packet) (e : content_of xs ≡ V6 p) where
  long : 40 ≤ length xs
  long = let r = reads xs p e in let whole = r.whole in omega arith

  are : AreParts (take 4 xs) (take 2 (drop 4 xs)) (take 16 (drop 8 xs)) (take 16 (drop 24 xs))
  are = are_parts xs long

  version : slice_index (take 4 xs) 0 / 16 ≡ 6
  version = ap (λ k. k / 16) (get_or-take 4 xs 0 0 (omega arith)) ∙ (reads xs p e).version

  stated : stated_len xs ≡ two_number (take 2 (drop 4 xs))
  stated =
      ap stated_len (laid_parts xs long)
      ∙ stated_laid (take 4 xs) (take 2 (drop 4 xs)) (slice_index xs 6) (slice_index xs 7) (take 16 (drop 8 xs)) (take 16 (drop 24 xs))
      (drop 40 xs) are

  fits : two_number (take 2 (drop 4 xs)) ≤ length (drop 40 xs)
  fits = let r = reads xs p e in let whole = r.whole in let is = stated in omega (arith, length-drop 40 xs)

  packet : packet_of (take 4 xs) (take 2 (drop 4 xs)) (slice_index xs 6) (slice_index xs 7) (take 16 (drop 8 xs)) (take 16 (drop 24 xs))
      (drop 40 xs) are ≡ p
  packet =
      sym (packet_laid (take 4 xs) (take 2 (drop 4 xs)) (slice_index xs 6) (slice_index xs 7) (take 16 (drop 8 xs)) (take 16 (drop 24 xs))
      (drop 40 xs) are)
      ∙ ap packet_at (sym (laid_parts xs long)) ∙ (reads xs p e).packet

  -- another next header
  pub read_next_header : (x : ℕ) → content_of (slice_set xs 6 x) ≡ V6 (record p { next_header = x })
  unfolding packet_of
  read_next_header x =
      let a : List ℕ = take 4 xs in let b : List ℕ = take 2 (drop 4 xs) in
      let s : List ℕ = take 16 (drop 8 xs) in let d : List ℕ = take 16 (drop 24 xs) in let r : List ℕ = drop 40 xs in
      let h : ℕ = slice_index xs 7 in
      ap (λ ys. content_of (slice_set ys 6 x)) (laid_parts xs long)
      ∙ ap content_of (set6_laid a b (slice_index xs 6) h s d r are x)
      ∙ content_laid a b x h s d r are version fits
      ∙ ap (λ (q : Packet). V6 (record q { next_header = x })) packet

  -- another hop limit
  pub read_hop_limit : (x : ℕ) → content_of (slice_set xs 7 x) ≡ V6 (record p { hop_limit = x })
  unfolding packet_of
  read_hop_limit x =
      let a : List ℕ = take 4 xs in let b : List ℕ = take 2 (drop 4 xs) in
      let s : List ℕ = take 16 (drop 8 xs) in let d : List ℕ = take 16 (drop 24 xs) in let r : List ℕ = drop 40 xs in
      let n : ℕ = slice_index xs 6 in
      ap (λ ys. content_of (slice_set ys 7 x)) (laid_parts xs long)
      ∙ ap content_of (set7_laid a b n (slice_index xs 7) s d r are x)
      ∙ content_laid a b n x s d r are version fits
      ∙ ap (λ (q : Packet). V6 (record q { hop_limit = x })) packet

  -- another destination
  pub read_destination : (x : ℕ) → x < 2 ^ 128
      → content_of (take 24 xs ++ (address_bytes x ++ drop 40 xs)) ≡ V6 (record p { destination = x })
  unfolding packet_of
  read_destination x below =
      let a : List ℕ = take 4 xs in let b : List ℕ = take 2 (drop 4 xs) in
      let s : List ℕ = take 16 (drop 8 xs) in let d : List ℕ = take 16 (drop 24 xs) in let r : List ℕ = drop 40 xs in
      let n : ℕ = slice_index xs 6 in let h : ℕ = slice_index xs 7 in let w : List ℕ = address_bytes x in
      let parts : AreParts a b s w =
      record { word = are.word; stated = are.stated; source = are.source; destination = length_address_bytes x } in
      ap (λ ys. content_of (take 24 ys ++ (w ++ drop 40 ys))) (laid_parts xs long)
      ∙ ap content_of (put24_laid a b n h s d r are w)
      ∙ content_laid a b n h s w r parts version fits
      ∙ ap (λ k. V6 (record (packet_of a b n h s d r are) { destination = k })) (address_back x below)
      ∙ ap (λ (q : Packet). V6 (record q { destination = x })) packet

  -- another payload length: so many of the bytes after the header are the payload, where they are there
  pub read_payload_len : (x : ℕ) → x < 2 ^ 16 → header_len + x ≤ length xs
      → content_of (take 4 xs ++ (two_bytes x ++ drop 6 xs)) ≡ V6 (record p { payload = take x (drop header_len xs) })
  unfolding packet_of
  read_payload_len x below room =
      let a : List ℕ = take 4 xs in let b : List ℕ = take 2 (drop 4 xs) in
      let s : List ℕ = take 16 (drop 8 xs) in let d : List ℕ = take 16 (drop 24 xs) in let r : List ℕ = drop 40 xs in
      let n : ℕ = slice_index xs 6 in let h : ℕ = slice_index xs 7 in let w : List ℕ = two_bytes x in
      let parts : AreParts a w s d =
      record { word = are.word; stated = length_two_bytes x; source = are.source; destination = are.destination } in
      let back : two_number w ≡ x = two_back x below in
      let here : two_number w ≤ length r = omega (arith, length-drop 40 xs) in
      ap (λ ys. content_of (take 4 ys ++ (w ++ drop 6 ys))) (laid_parts xs long)
      ∙ ap content_of (put4_laid a b n h s d r are w)
      ∙ content_laid a w n h s d r parts version here
      ∙ ap (λ k. V6 (record (packet_of a b n h s d r are) { payload = take k r })) back
      ∙ ap (λ (q : Packet). V6 (record q { payload = take x r })) packet

  pub read_payload_cut : (x : ℕ) → x < 2 ^ 16 → length xs < header_len + x
      → content_of (take 4 xs ++ (two_bytes x ++ drop 6 xs)) ≡ Unreadable (take 4 xs ++ (two_bytes x ++ drop 6 xs)) Truncated
  read_payload_cut x below room =
      let a : List ℕ = take 4 xs in let b : List ℕ = take 2 (drop 4 xs) in
      let s : List ℕ = take 16 (drop 8 xs) in let d : List ℕ = take 16 (drop 24 xs) in let r : List ℕ = drop 40 xs in
      let n : ℕ = slice_index xs 6 in let h : ℕ = slice_index xs 7 in let w : List ℕ = two_bytes x in
      let parts : AreParts a w s d =
      record { word = are.word; stated = length_two_bytes x; source = are.source; destination = are.destination } in
      let back : two_number w ≡ x = two_back x below in
      let whole : 40 ≤ length xs = long in
      let short : length r < two_number w = omega (arith, length-drop 40 xs) in
      let same : take 4 xs ++ (w ++ drop 6 xs) ≡ laid a w n h s d r =
      ap (λ ys. take 4 ys ++ (w ++ drop 6 ys)) (laid_parts xs long) ∙ put4_laid a b n h s d r are w in
      ap content_of same ∙ short_laid a w n h s d r parts version short ∙ ap (λ ys. Unreadable ys Truncated) (sym same)

pub ruleset behinds = (drop-drop)
