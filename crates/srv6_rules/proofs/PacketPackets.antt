-- A packet's spelling read back, and what reads as a packet spelled.
use Rattle.std.proofs.Common.{◌/◌, ◌%◌, ◌≡◌, ℕ, ◌+◌, ◌-◌, ◌^◌, ◌<◌, ◌≤◌, Bool, true, false, cond, ◌==◌, nat_lt, List, [], ◌∷◌, ◌++◌, length, take, drop, slice_index, All, refl, sym, ap, subst, ◌∙◌, arith, ◌⊎◌, take-add, length-append, length-drop}
use Rattle.std.proofs.lemmas.Bool.{eqb-true, ltb-false, eq-eqb, ne_eqb, le-ltb}
use Rattle.std.proofs.lemmas.List.{append_assoc, append-nil, drop-drop, drop_all, take_at, length-take-le, take-append-drop, drop_more, get_or-append-add}
use Rattle.std.proofs.lemmas.List.Elements.{All-append, All-cons, All-take, All-drop}
use Rattle.srv6_rules.specs.declared.reason.Reason.{Reason}
use Rattle.srv6_rules.specs.declared.reason.Reason.TheVariants.{Truncated, BadVersion}
use Rattle.srv6_rules.specs.Packet.{Packet, V6, Unreadable, IsSpellable, spelling, header_spelling, first_word, two_bytes, four_bytes, address_bytes, two_number, four_number, address_number, stated_len, packet_at, content_of}
use Rattle.srv6_rules.specs.PacketTerms.{Spells}
use Rattle.srv6_rules.proofs.Bytes.{length_two_bytes, length_four_bytes, length_address_bytes, all_two_bytes, all_four_bytes, all_address_bytes, two_number_below, address_number_below, two_number_bytes, four_number_bytes, address_number_bytes, two_bytes_number, four_bytes_number, address_bytes_number, byte_below}
use Rattle.srv6_rules.proofs.PacketWords.{laid, drop4_laid, drop8_laid, drop24_laid, drop40_laid, six_laid, seven_laid, length_laid, agree_laid, first_word_below, first_word_class, first_word_label, first_word_parts, first_word_version, four_number_version}

-- ---- reading what was spelled

-- a spelling with more after it, laid out
pub spelling_laid : (p : Packet) (rest : List ℕ)
    → spelling p ++ rest ≡ laid (four_bytes (first_word p.traffic_class p.flow_label))
    (two_bytes (length p.payload)) p.next_header p.hop_limit (address_bytes p.source) (address_bytes p.destination) (p.payload ++ rest)
unfolding laid header_spelling
spelling_laid p rest = simp append_assoc

-- a header is 40 bytes
pub length_header_spelling : (p : Packet) → length (header_spelling p) ≡ 40
unfolding header_spelling
length_header_spelling p =
    simp (length-append, length_four_bytes, length_two_bytes, length_address_bytes)

-- a spelling is 40 bytes and the payload
pub length_spelling : (p : Packet) → length (spelling p) ≡ 40 + length p.payload
length_spelling p = length-append (header_spelling p) p.payload ∙ ap (λ n. n + length p.payload) (length_header_spelling p)

-- each byte of a spelling is below 256
all_header_spelling : (p : Packet) → IsSpellable p → All (λ b. b < 2 ^ 8) (header_spelling p)
unfolding header_spelling
all_header_spelling p h =
    let P : ℕ → Type 0 = λ b. b < 2 ^ 8 in
    let addresses = All-append P (address_bytes p.source) (address_bytes p.destination) (all_address_bytes p.source)
    (all_address_bytes p.destination) in
    let tail = All-cons P p.next_header (p.hop_limit ∷ (address_bytes p.source ++ address_bytes p.destination)) h.next_header
    (All-cons P p.hop_limit (address_bytes p.source ++ address_bytes p.destination) h.hop_limit addresses) in
    let behind_word = All-append P (two_bytes (length p.payload))
    (p.next_header ∷ (p.hop_limit ∷ (address_bytes p.source ++ address_bytes p.destination))) (all_two_bytes (length p.payload)) tail in
    All-append P (four_bytes (first_word p.traffic_class p.flow_label))
    (two_bytes (length p.payload) ++ (p.next_header ∷ (p.hop_limit ∷ (address_bytes p.source ++ address_bytes p.destination))))
    (all_four_bytes (first_word p.traffic_class p.flow_label)) behind_word

pub all_spelling : (p : Packet) → IsSpellable p → All (λ b. b < 2 ^ 8) (spelling p)
all_spelling p h = All-append (λ b. b < 2 ^ 8) (header_spelling p) p.payload (all_header_spelling p h) h.payload

-- bytes that hold what their header states read as the packet there
pub content_of_whole : (bytes : List ℕ) → slice_index bytes 0 / 16 ≡ 6 → 40 + stated_len bytes ≤ length bytes
    → content_of bytes ≡ V6 (packet_at bytes)
content_of_whole bytes version whole =
    let e1 = ne_eqb (length bytes) 0 (omega arith) in
    let e2 = eq-eqb (slice_index bytes 0 / 16) 6 version in
    let e3 = le-ltb (length bytes) 40 (omega arith) in
    let e4 = le-ltb (length bytes) (40 + stated_len bytes) whole in
    rw (e1, e2, e3, e4) refl

-- the packet in bytes, by what is read of them
packet_at_from : (p : Packet) (bytes : List ℕ)
    → four_number bytes / 2 ^ 20 % 2 ^ 8 ≡ p.traffic_class → four_number bytes % 2 ^ 20 ≡ p.flow_label
    → slice_index bytes 6 ≡ p.next_header → slice_index bytes 7 ≡ p.hop_limit
    → address_number (drop 8 bytes) ≡ p.source → address_number (drop 24 bytes) ≡ p.destination
    → take (stated_len bytes) (drop 40 bytes) ≡ p.payload → packet_at bytes ≡ p
unfolding packet_at
packet_at_from p bytes e1 e2 e3 e4 e5 e6 e7 = rw (e1, e2, e3, e4, e5, e6, e7) refl

module _ (p : Packet) (rest : List ℕ) (h : IsSpellable p) where
  word : ℕ
  word = first_word p.traffic_class p.flow_label

  spelled : List ℕ
  spelled = laid (four_bytes word) (two_bytes (length p.payload)) p.next_header p.hop_limit (address_bytes p.source)
      (address_bytes p.destination) (p.payload ++ rest)

  word_is : four_number spelled ≡ word
  unfolding spelled laid word
  word_is = four_number_bytes word
      (two_bytes (length p.payload) ++
      (p.next_header ∷ p.hop_limit ∷ (address_bytes p.source ++ (address_bytes p.destination ++ (p.payload ++ rest)))))
      (first_word_below p.traffic_class p.flow_label h.traffic_class h.flow_label)

  version_is : slice_index spelled 0 / 16 ≡ 6
  unfolding spelled laid word
  version_is = first_word_version p.traffic_class p.flow_label
      (two_bytes (length p.payload) ++
      (p.next_header ∷ p.hop_limit ∷ (address_bytes p.source ++ (address_bytes p.destination ++ (p.payload ++ rest)))))
      h.traffic_class h.flow_label

  length_word : length (four_bytes word) ≡ 4
  length_word = length_four_bytes word

  stated_is : stated_len spelled ≡ length p.payload
  unfolding spelled stated_len
  stated_is = ap two_number (drop4_laid (four_bytes word) (two_bytes (length p.payload)) p.next_header p.hop_limit (address_bytes p.source)
      (address_bytes p.destination) (p.payload ++ rest)
      length_word (length_two_bytes (length p.payload)) (length_address_bytes p.source) (length_address_bytes p.destination))
      ∙ two_number_bytes (length p.payload)
      (p.next_header ∷ p.hop_limit ∷ (address_bytes p.source ++ (address_bytes p.destination ++ (p.payload ++ rest)))) h.payload_len

  source_is : address_number (drop 8 spelled) ≡ p.source
  unfolding spelled
  source_is = ap address_number (drop8_laid (four_bytes word) (two_bytes (length p.payload)) p.next_header p.hop_limit
      (address_bytes p.source) (address_bytes p.destination) (p.payload ++ rest)
      length_word (length_two_bytes (length p.payload)) (length_address_bytes p.source) (length_address_bytes p.destination))
      ∙ address_number_bytes p.source (address_bytes p.destination ++ (p.payload ++ rest)) h.source

  destination_is : address_number (drop 24 spelled) ≡ p.destination
  unfolding spelled
  destination_is = ap address_number
      (drop24_laid (four_bytes word) (two_bytes (length p.payload)) p.next_header p.hop_limit (address_bytes p.source)
      (address_bytes p.destination) (p.payload ++ rest)
      length_word (length_two_bytes (length p.payload)) (length_address_bytes p.source) (length_address_bytes p.destination))
      ∙ address_number_bytes p.destination (p.payload ++ rest) h.destination

  rest_is : drop 40 spelled ≡ p.payload ++ rest
  unfolding spelled
  rest_is = drop40_laid (four_bytes word) (two_bytes (length p.payload)) p.next_header p.hop_limit (address_bytes p.source)
      (address_bytes p.destination) (p.payload ++ rest)
      length_word (length_two_bytes (length p.payload)) (length_address_bytes p.source) (length_address_bytes p.destination)

  payload_is : take (stated_len spelled) (drop 40 spelled) ≡ p.payload
  payload_is = rw (stated_is, rest_is) (take_at p.payload rest (length p.payload) refl)

  next_header_is : slice_index spelled 6 ≡ p.next_header
  unfolding spelled
  next_header_is = six_laid (four_bytes word) (two_bytes (length p.payload)) p.next_header p.hop_limit (address_bytes p.source)
      (address_bytes p.destination) (p.payload ++ rest)
      length_word (length_two_bytes (length p.payload)) (length_address_bytes p.source) (length_address_bytes p.destination)

  hop_limit_is : slice_index spelled 7 ≡ p.hop_limit
  unfolding spelled
  hop_limit_is = seven_laid (four_bytes word) (two_bytes (length p.payload)) p.next_header p.hop_limit (address_bytes p.source)
      (address_bytes p.destination) (p.payload ++ rest)
      length_word (length_two_bytes (length p.payload)) (length_address_bytes p.source) (length_address_bytes p.destination)

  length_is : length spelled ≡ 40 + (length p.payload + length rest)
  unfolding spelled
  length_is = length_laid (four_bytes word) (two_bytes (length p.payload)) p.next_header p.hop_limit (address_bytes p.source)
      (address_bytes p.destination) (p.payload ++ rest)
      length_word (length_two_bytes (length p.payload)) (length_address_bytes p.source) (length_address_bytes p.destination)
      ∙ ap (λ n. 40 + n) (length-append p.payload rest)

  class_is : four_number spelled / 2 ^ 20 % 2 ^ 8 ≡ p.traffic_class
  unfolding word
  class_is = rw word_is (first_word_class p.traffic_class p.flow_label h.traffic_class h.flow_label)

  label_is : four_number spelled % 2 ^ 20 ≡ p.flow_label
  unfolding word
  label_is = rw word_is (first_word_label p.traffic_class p.flow_label h.traffic_class h.flow_label)

  read_back : content_of spelled ≡ V6 p
  read_back =
      content_of_whole spelled version_is (omega (arith, stated_is, length_is))
      ∙ ap V6 (packet_at_from p spelled class_is label_is next_header_is hop_limit_is source_is destination_is payload_is)

-- a spelling, laid out
pub spelling_laid_alone : (p : Packet)
    → spelling p ≡ laid (four_bytes (first_word p.traffic_class p.flow_label)) (two_bytes (length p.payload)) p.next_header p.hop_limit
    (address_bytes p.source) (address_bytes p.destination) p.payload
spelling_laid_alone p =
    sym (append-nil (spelling p)) ∙ spelling_laid p []
    ∙ ap (laid (four_bytes (first_word p.traffic_class p.flow_label)) (two_bytes (length p.payload)) p.next_header p.hop_limit
    (address_bytes p.source) (address_bytes p.destination)) (append-nil p.payload)

-- packets that differ in the hop limit, the destination and bytes of the payload agree elsewhere in their spellings
pub spelling_agrees : (p q : Packet) → q.traffic_class ≡ p.traffic_class → q.flow_label ≡ p.flow_label → q.next_header ≡ p.next_header
    → q.source ≡ p.source
    → length q.payload ≡ length p.payload → (k : ℕ) → (k ≡ 7 → ⊥) → (k < 24) ⊎ (40 ≤ k)
    → (40 ≤ k → slice_index q.payload (k - 40) ≡ slice_index p.payload (k - 40)) → slice_index (spelling q) k ≡ slice_index (spelling p) k
spelling_agrees p q class label next source len k not_seven side behind =
    let w : ℕ = first_word p.traffic_class p.flow_label in
    let word : first_word q.traffic_class q.flow_label ≡ w = rw (class, label) refl in
    let there : spelling q ≡ laid (four_bytes w) (two_bytes (length p.payload)) p.next_header q.hop_limit (address_bytes p.source)
    (address_bytes q.destination) q.payload =
    spelling_laid_alone q ∙ rw (word, len, next, source) refl in
    ap (λ xs. slice_index xs k) there
    ∙ agree_laid (four_bytes w) (two_bytes (length p.payload)) p.next_header q.hop_limit p.hop_limit (address_bytes p.source)
    (address_bytes q.destination) (address_bytes p.destination) q.payload p.payload
    (length_four_bytes w) (length_two_bytes (length p.payload)) (length_address_bytes p.source) (length_address_bytes q.destination)
    (length_address_bytes p.destination)
    k not_seven side behind
    ∙ ap (λ xs. slice_index xs k) (sym (spelling_laid_alone p))

-- the byte of the hop limit, and those of the payload
pub spelling_hop_limit : (p : Packet) → slice_index (spelling p) 7 ≡ p.hop_limit
spelling_hop_limit p =
    let w : ℕ = first_word p.traffic_class p.flow_label in
    ap (λ xs. slice_index xs 7) (spelling_laid_alone p)
    ∙ seven_laid (four_bytes w) (two_bytes (length p.payload)) p.next_header p.hop_limit (address_bytes p.source)
    (address_bytes p.destination) p.payload
    (length_four_bytes w) (length_two_bytes (length p.payload)) (length_address_bytes p.source) (length_address_bytes p.destination)

pub spelling_payload : (p : Packet) (k : ℕ) → slice_index (spelling p) (40 + k) ≡ slice_index p.payload k
spelling_payload p k =
    ap (λ n. slice_index (spelling p) (n + k)) (sym (length_header_spelling p)) ∙ get_or-append-add (header_spelling p) p.payload k 0

-- reading a spelling gives the packet, whatever stands after it
pub content_of_spelling : (p : Packet) (rest : List ℕ) → IsSpellable p → content_of (spelling p ++ rest) ≡ V6 p
unfolding spelled word
content_of_spelling p rest h = rw (spelling_laid p rest) (read_back p rest h)

pub content_of_spelling_alone : (p : Packet) → IsSpellable p → content_of (spelling p) ≡ V6 p
content_of_spelling_alone p h = ap content_of (sym (append-nil (spelling p))) ∙ content_of_spelling p [] h

-- ---- what reads was spelled

-- bytes that read as a packet hold what their header states, and the packet is what is read there
pub record Reads (bytes : List ℕ) (p : Packet) : Type 0 where
  pub version : slice_index bytes 0 / 16 ≡ 6
  pub whole : 40 + stated_len bytes ≤ length bytes
  pub packet : packet_at bytes ≡ p

reads_by_tests : (bytes : List ℕ) (p : Packet) (empty six short cut : Bool)
    → length bytes == 0 ≡ empty → (slice_index bytes 0 / 16) == 6 ≡ six → nat_lt (length bytes) 40 ≡ short
    → nat_lt (length bytes) (40 + stated_len bytes) ≡ cut
    → cond empty (Unreadable bytes Truncated)
    (cond six (cond short (Unreadable bytes Truncated) (cond cut (Unreadable bytes Truncated) (V6 (packet_at bytes))))
    (Unreadable bytes BadVersion)) ≡ V6 p
    → Reads bytes p
reads_by_tests bytes p true six short cut e1 e2 e3 e4 e = cc
reads_by_tests bytes p false false short cut e1 e2 e3 e4 e = cc
reads_by_tests bytes p false true true cut e1 e2 e3 e4 e = cc
reads_by_tests bytes p false true false true e1 e2 e3 e4 e = cc
reads_by_tests bytes p false true false false e1 e2 e3 e4 e =
    record { version = eqb-true (slice_index bytes 0 / 16) 6 e2; whole = ltb-false (length bytes) (40 + stated_len bytes) e4; packet = cc }

pub reads : (bytes : List ℕ) (p : Packet) → content_of bytes ≡ V6 p → Reads bytes p
reads bytes p e = reads_by_tests bytes p (length bytes == 0) ((slice_index bytes 0 / 16) == 6) (nat_lt (length bytes) 40)
    (nat_lt (length bytes) (40 + stated_len bytes)) refl refl refl refl e

-- what does not read is kept as it is
unreadable_by_tests : (bytes kept : List ℕ) (why : Reason) (empty six short cut : Bool)
    → cond empty (Unreadable bytes Truncated)
    (cond six (cond short (Unreadable bytes Truncated) (cond cut (Unreadable bytes Truncated) (V6 (packet_at bytes))))
    (Unreadable bytes BadVersion)) ≡ Unreadable kept why
    → bytes ≡ kept
unreadable_by_tests bytes kept why true six short cut e = cc
unreadable_by_tests bytes kept why false false short cut e = cc
unreadable_by_tests bytes kept why false true true cut e = cc
unreadable_by_tests bytes kept why false true false true e = cc
unreadable_by_tests bytes kept why false true false false e = cc

pub unreadable : (bytes kept : List ℕ) (why : Reason) → content_of bytes ≡ Unreadable kept why → bytes ≡ kept
unreadable bytes kept why e = unreadable_by_tests bytes kept why (length bytes == 0) ((slice_index bytes 0 / 16) == 6)
    (nat_lt (length bytes) 40) (nat_lt (length bytes) (40 + stated_len bytes)) e

-- the packet in whole bytes can be spelled
pub packet_at_spellable : (bytes : List ℕ) → All (λ b. b < 2 ^ 8) bytes → 40 + stated_len bytes ≤ length bytes
    → IsSpellable (packet_at bytes)
unfolding packet_at stated_len
packet_at_spellable bytes all whole =
    let P : ℕ → Type 0 = λ b. b < 2 ^ 8 in
    record {
      traffic_class = omega arith;
      flow_label = omega arith;
      next_header = byte_below bytes 6 all;
      hop_limit = byte_below bytes 7 all;
      source = address_number_below (drop 8 bytes) (All-drop P 8 bytes all);
      destination = address_number_below (drop 24 bytes) (All-drop P 24 bytes all);
      payload_len = let below = two_number_below (drop 4 bytes) (All-drop P 4 bytes all) in
          let len = length-take-le (two_number (drop 4 bytes)) (drop 40 bytes) (omega (arith, length-drop 40 bytes)) in omega arith;
      payload = All-take P (two_number (drop 4 bytes)) (drop 40 bytes) (All-drop P 40 bytes all);
    }

-- a part of bytes and the part after it are one part
then_take : (i m n : ℕ) (xs zs ys : List ℕ) → zs ≡ take m (drop i xs) → ys ≡ take n (drop (i + m) xs) → zs ++ ys ≡ take (m + n) (drop i xs)
then_take i m n xs zs ys ez ey =
    ap (λ ws. ws ++ ys) ez ∙ ap (λ ws. take m (drop i xs) ++ ws) (ey ∙ ap (take n) (sym (drop-drop m i xs)))
    ∙ sym (take-add m n (drop i xs))

laid_from : (bytes a b : List ℕ) (n h : ℕ) (s d r : List ℕ) (k : ℕ) → a ≡ take 4 bytes → b ≡ take 2 (drop 4 bytes)
    → n ∷ h ∷ [] ≡ take 2 (drop 6 bytes) → s ≡ take 16 (drop 8 bytes) → d ≡ take 16 (drop 24 bytes) → r ≡ take k (drop 40 bytes)
    → laid a b n h s d r ≡ take (40 + k) bytes
unfolding laid
laid_from bytes a b n h s d r k ea eb en es ed er =
    let e24 = then_take 24 16 k bytes d r ed er in
    let e8 = then_take 8 16 (16 + k) bytes s (d ++ r) es e24 in
    let e6 = then_take 6 2 (16 + (16 + k)) bytes (n ∷ h ∷ []) (s ++ (d ++ r)) en e8 in
    let e4 = then_take 4 2 (2 + (16 + (16 + k))) bytes b (n ∷ h ∷ (s ++ (d ++ r))) eb e6 in
    let e0 = then_take 0 4 (2 + (2 + (16 + (16 + k)))) bytes a (b ++ (n ∷ h ∷ (s ++ (d ++ r)))) ea e4 in
    let sum : 4 + (2 + (2 + (16 + (16 + k)))) ≡ 40 + k = omega arith in
    e0 ∙ ap (λ m. take m bytes) sum

two_at_six : (bytes : List ℕ) → 8 ≤ length bytes → slice_index bytes 6 ∷ slice_index bytes 7 ∷ [] ≡ take 2 (drop 6 bytes)
two_at_six bytes h = rw (drop_more bytes 6 0 (omega arith), drop_more bytes 7 0 (omega arith)) refl

-- a packet's spelling from what is known of its fields
spelling_from : (p : Packet) (bytes : List ℕ) → four_bytes (first_word p.traffic_class p.flow_label) ≡ take 4 bytes
    → two_bytes (length p.payload) ≡ take 2 (drop 4 bytes)
    → p.next_header ∷ p.hop_limit ∷ [] ≡ take 2 (drop 6 bytes) → address_bytes p.source ≡ take 16 (drop 8 bytes)
    → address_bytes p.destination ≡ take 16 (drop 24 bytes)
    → p.payload ≡ take (length p.payload) (drop 40 bytes)
    → spelling p ≡ take (40 + length p.payload) bytes
spelling_from p bytes ew el en es ed er =
    let flat = sym (append-nil (spelling p)) ∙ spelling_laid p [] in
    let inner = append-nil p.payload in
    flat ∙ laid_from bytes (four_bytes (first_word p.traffic_class p.flow_label)) (two_bytes (length p.payload)) p.next_header p.hop_limit
    (address_bytes p.source) (address_bytes p.destination) (p.payload ++ []) (length p.payload)
    ew el en es ed (inner ∙ er)

length_payload_at : (bytes : List ℕ) → 40 + stated_len bytes ≤ length bytes → length (packet_at bytes).payload ≡ stated_len bytes
unfolding packet_at
length_payload_at bytes whole = length-take-le (stated_len bytes) (drop 40 bytes) (omega (arith, length-drop 40 bytes))

payload_at : (bytes : List ℕ) → (packet_at bytes).payload ≡ take (stated_len bytes) (drop 40 bytes)
unfolding packet_at
payload_at bytes = refl

word_at : (bytes : List ℕ) → All (λ b. b < 2 ^ 8) bytes → slice_index bytes 0 / 16 ≡ 6 → 4 ≤ length bytes
    → four_bytes (first_word (packet_at bytes).traffic_class (packet_at bytes).flow_label) ≡ take 4 bytes
unfolding packet_at
word_at bytes all version long =
    ap four_bytes (first_word_parts (four_number bytes) (four_number_version bytes all ∙ version)) ∙ four_bytes_number bytes long all

two_at : (bytes : List ℕ) → 8 ≤ length bytes → (packet_at bytes).next_header ∷ (packet_at bytes).hop_limit ∷ [] ≡ take 2 (drop 6 bytes)
unfolding packet_at
two_at bytes h = two_at_six bytes h

source_at : (bytes : List ℕ) → All (λ b. b < 2 ^ 8) bytes → 40 ≤ length bytes
    → address_bytes (packet_at bytes).source ≡ take 16 (drop 8 bytes)
unfolding packet_at
source_at bytes all long = address_bytes_number (drop 8 bytes) (omega (arith, length-drop 8 bytes)) (All-drop (λ b. b < 2 ^ 8) 8 bytes all)

destination_at : (bytes : List ℕ) → All (λ b. b < 2 ^ 8) bytes → 40 ≤ length bytes
    → address_bytes (packet_at bytes).destination ≡ take 16 (drop 24 bytes)
unfolding packet_at
destination_at bytes all long =
    address_bytes_number (drop 24 bytes) (omega (arith, length-drop 24 bytes)) (All-drop (λ b. b < 2 ^ 8) 24 bytes all)

stated_at : (bytes : List ℕ) → All (λ b. b < 2 ^ 8) bytes → 40 ≤ length bytes → two_bytes (stated_len bytes) ≡ take 2 (drop 4 bytes)
unfolding stated_len
stated_at bytes all long = two_bytes_number (drop 4 bytes) (omega (arith, length-drop 4 bytes)) (All-drop (λ b. b < 2 ^ 8) 4 bytes all)

-- the packet in whole bytes is spelled by them up to its end
pub spelling_packet_at : (bytes : List ℕ) → All (λ b. b < 2 ^ 8) bytes → slice_index bytes 0 / 16 ≡ 6 → 40 + stated_len bytes ≤ length bytes
    → spelling (packet_at bytes) ≡ take (40 + stated_len bytes) bytes
spelling_packet_at bytes all version whole =
    let len = length_payload_at bytes whole in
    spelling_from (packet_at bytes) bytes (word_at bytes all version (omega arith))
    (ap two_bytes len ∙ stated_at bytes all (omega arith))
    (two_at bytes (omega arith)) (source_at bytes all (omega arith)) (destination_at bytes all (omega arith))
    (payload_at bytes ∙ ap (λ n. take n (drop 40 bytes)) (sym len))
    ∙ ap (λ n. take (40 + n) bytes) len

-- ---- both ways at once

-- what reads can be spelled
pub reads_spellable : (bytes : List ℕ) (p : Packet) → All (λ b. b < 2 ^ 8) bytes → content_of bytes ≡ V6 p → IsSpellable p
reads_spellable bytes p all e =
    let r = reads bytes p e in
    let Q : Packet → Type 0 = λ q. IsSpellable q in
    subst Q r.packet (packet_at_spellable bytes all r.whole)

-- what reads is spelled by the first bytes
pub reads_spelled : (bytes : List ℕ) (p : Packet) → All (λ b. b < 2 ^ 8) bytes → content_of bytes ≡ V6 p
    → bytes ≡ spelling p ++ drop (length (spelling p)) bytes
reads_spelled bytes p all e =
    let r = reads bytes p e in
    let whole : spelling p ≡ take (40 + stated_len bytes) bytes = ap (λ q. spelling q) (sym r.packet)
    ∙ spelling_packet_at bytes all r.version r.whole in
    let len : length (spelling p) ≡ 40 + stated_len bytes = ap length whole ∙ length-take-le (40 + stated_len bytes) bytes r.whole in
    let cut : spelling p ≡ take (length (spelling p)) bytes = whole ∙ ap (λ n. take n bytes) (sym len) in
    sym (take-append-drop (length (spelling p)) bytes) ∙ ap (λ xs. xs ++ drop (length (spelling p)) bytes) (sym cut)

-- bytes with nothing after the end of their packet are its spelling
pub reads_spelling : (bytes : List ℕ) (p : Packet) → All (λ b. b < 2 ^ 8) bytes → content_of bytes ≡ V6 p
    → length bytes ≤ length (spelling p)
    → bytes ≡ spelling p
reads_spelling bytes p all e short =
    reads_spelled bytes p all e ∙ ap (λ xs. spelling p ++ xs) (drop_all (length (spelling p)) bytes short) ∙ append-nil (spelling p)

pub spells_value : (p q : Packet) (bytes : List ℕ) → Spells bytes p → Spells bytes q → p ≡ q
spells_value p q bytes hp hq =
    let ep = content_of_spelling_alone p hp.0 in
    let eq = content_of_spelling_alone q hq.0 in
    let same : spelling p ≡ spelling q = sym hp.1 ∙ hq.1 in
    let both : V6 p ≡ V6 q = sym ep ∙ ap content_of same ∙ eq in
    cc both
