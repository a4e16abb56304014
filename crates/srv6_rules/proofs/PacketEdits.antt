-- Where the fields stand in a packet's spelling, and what an edit of a field does to the bytes.
use Rattle.std.proofs.Common.{◌≡◌, ℕ, ◌+◌, ◌-◌, ◌≤◌, List, ◌∷◌, ◌++◌, length, take, drop, slice_index, slice_set, refl, sym, ap, ◌∙◌, arith}
use Rattle.std.proofs.lemmas.List.{append_assoc, take_at, drop_at, drop-drop, length-append, length-set, set-append_right}
use Rattle.srv6_rules.specs.Packet.{Packet, header_len, spelling, header_spelling, first_word, two_bytes, four_bytes, address_bytes}
use Rattle.srv6_rules.specs.Chain.{from_place}
use Rattle.srv6_rules.proofs.Bytes.{length_two_bytes, length_four_bytes, length_address_bytes}
use Rattle.srv6_rules.proofs.PacketWords.{laid, drop4_laid, drop8_laid, drop24_laid, drop40_laid, six_laid}
use Rattle.srv6_rules.proofs.PacketPackets.{spelling_laid_alone, length_header_spelling}

-- ---- bytes that are laid out, with a part changed

set7_laid : (a b : List ℕ) (n h : ℕ) (s d r : List ℕ) (x : ℕ) → length a ≡ 4 → length b ≡ 2
    → slice_set (laid a b n h s d r) 7 x ≡ laid a b n x s d r
unfolding laid
set7_laid a b n h s d r x la lb =
    set-append_right a (b ++ (n ∷ h ∷ (s ++ (d ++ r)))) 4 7 x la (omega arith)
    ∙ ap (λ ys. a ++ ys) (set-append_right b (n ∷ h ∷ (s ++ (d ++ r))) 2 3 x lb (omega arith))

front24_laid : (a b : List ℕ) (n h : ℕ) (s d r : List ℕ) → laid a b n h s d r ≡ (a ++ (b ++ (n ∷ h ∷ s))) ++ (d ++ r)
unfolding laid
front24_laid a b n h s d r = simp append_assoc

take24_laid : (a b : List ℕ) (n h : ℕ) (s d r : List ℕ) → length a ≡ 4 → length b ≡ 2 → length s ≡ 16
    → take 24 (laid a b n h s d r) ≡ a ++ (b ++ (n ∷ h ∷ s))
take24_laid a b n h s d r la lb ls =
    ap (take 24) (front24_laid a b n h s d r) ∙ take_at (a ++ (b ++ (n ∷ h ∷ s))) (d ++ r) 24 (simp length-append (omega arith))

put24_laid : (a b : List ℕ) (n h : ℕ) (s d e r : List ℕ) → length a ≡ 4 → length b ≡ 2 → length s ≡ 16 → length d ≡ 16
    → take 24 (laid a b n h s d r) ++ (e ++ drop 40 (laid a b n h s d r)) ≡ laid a b n h s e r
put24_laid a b n h s d e r la lb ls ld =
    rw (take24_laid a b n h s d r la lb ls, drop40_laid a b n h s d r la lb ls ld) (sym (front24_laid a b n h s e r))

-- ---- where the fields stand

pub spelling_word : (p : Packet) → take 4 (spelling p) ≡ four_bytes (first_word p.traffic_class p.flow_label)
unfolding laid
spelling_word p =
    ap (take 4) (spelling_laid_alone p)
    ∙ take_at (four_bytes (first_word p.traffic_class p.flow_label))
    (two_bytes (length p.payload) ++
    (p.next_header ∷ p.hop_limit ∷ (address_bytes p.source ++ (address_bytes p.destination ++ p.payload)))) 4
    (length_four_bytes (first_word p.traffic_class p.flow_label))

pub spelling_stated : (p : Packet) → take 2 (drop 4 (spelling p)) ≡ two_bytes (length p.payload)
spelling_stated p =
    ap (λ xs. take 2 (drop 4 xs)) (spelling_laid_alone p)
    ∙ ap (take 2) (drop4_laid (four_bytes (first_word p.traffic_class p.flow_label))
    (two_bytes (length p.payload)) p.next_header p.hop_limit (address_bytes p.source) (address_bytes p.destination) p.payload
    (length_four_bytes (first_word p.traffic_class p.flow_label)) (length_two_bytes (length p.payload)) (length_address_bytes p.source)
    (length_address_bytes p.destination))
    ∙ take_at (two_bytes (length p.payload))
    (p.next_header ∷ p.hop_limit ∷ (address_bytes p.source ++ (address_bytes p.destination ++ p.payload))) 2
    (length_two_bytes (length p.payload))

pub spelling_next_header : (p : Packet) → slice_index (spelling p) 6 ≡ p.next_header
spelling_next_header p =
    ap (λ xs. slice_index xs 6) (spelling_laid_alone p)
    ∙ six_laid (four_bytes (first_word p.traffic_class p.flow_label)) (two_bytes (length p.payload)) p.next_header p.hop_limit
    (address_bytes p.source) (address_bytes p.destination) p.payload (length_four_bytes (first_word p.traffic_class p.flow_label))
    (length_two_bytes (length p.payload)) (length_address_bytes p.source) (length_address_bytes p.destination)

pub spelling_source : (p : Packet) → take 16 (drop 8 (spelling p)) ≡ address_bytes p.source
spelling_source p =
    ap (λ xs. take 16 (drop 8 xs)) (spelling_laid_alone p)
    ∙ ap (take 16) (drop8_laid (four_bytes (first_word p.traffic_class p.flow_label))
    (two_bytes (length p.payload)) p.next_header p.hop_limit (address_bytes p.source) (address_bytes p.destination) p.payload
    (length_four_bytes (first_word p.traffic_class p.flow_label)) (length_two_bytes (length p.payload)) (length_address_bytes p.source)
    (length_address_bytes p.destination))
    ∙ take_at (address_bytes p.source) (address_bytes p.destination ++ p.payload) 16 (length_address_bytes p.source)

pub spelling_destination : (p : Packet) → take 16 (drop 24 (spelling p)) ≡ address_bytes p.destination
spelling_destination p =
    ap (λ xs. take 16 (drop 24 xs)) (spelling_laid_alone p)
    ∙ ap (take 16) (drop24_laid (four_bytes (first_word p.traffic_class p.flow_label))
    (two_bytes (length p.payload)) p.next_header p.hop_limit (address_bytes p.source) (address_bytes p.destination) p.payload
    (length_four_bytes (first_word p.traffic_class p.flow_label)) (length_two_bytes (length p.payload)) (length_address_bytes p.source)
    (length_address_bytes p.destination))
    ∙ take_at (address_bytes p.destination) p.payload 16 (length_address_bytes p.destination)

pub spelling_behind : (p : Packet) → drop 40 (spelling p) ≡ p.payload
spelling_behind p = drop_at (header_spelling p) p.payload 40 (length_header_spelling p)

-- after the IPv6 header a packet's bytes are those of its payload
pub spelled_payload : (p : Packet) (bytes : List ℕ) → bytes ≡ spelling p → drop header_len bytes ≡ p.payload
spelled_payload p bytes spelled = ap (drop 40) spelled ∙ spelling_behind p

-- the bytes from a place on are the packet's from there on
pub spelled_from : (p : Packet) (bytes : List ℕ) (at : ℕ) → bytes ≡ spelling p → 40 ≤ at → drop at bytes ≡ from_place p at
spelled_from p bytes at spelled start =
    let sum : 40 + (at - 40) ≡ at = omega arith in
    ap (λ n. drop n bytes) (sym sum) ∙ sym (drop-drop (at - 40) 40 bytes) ∙ ap (drop (at - 40)) (spelled_payload p bytes spelled)

-- ---- an edit of a field is an edit of its bytes

pub edit_hop_limit : (p : Packet) (x : ℕ) → spelling (record p { hop_limit = x }) ≡ slice_set (spelling p) 7 x
edit_hop_limit p x =
    spelling_laid_alone (record p { hop_limit = x })
    ∙ sym (set7_laid (four_bytes (first_word p.traffic_class p.flow_label)) (two_bytes (length p.payload)) p.next_header p.hop_limit
    (address_bytes p.source) (address_bytes p.destination) p.payload x (length_four_bytes (first_word p.traffic_class p.flow_label))
    (length_two_bytes (length p.payload)))
    ∙ ap (λ xs. slice_set xs 7 x) (sym (spelling_laid_alone p))

pub edit_destination : (p : Packet) (a : ℕ)
    → spelling (record p { destination = a }) ≡ take 24 (spelling p) ++ (address_bytes a ++ drop 40 (spelling p))
edit_destination p a =
    spelling_laid_alone (record p { destination = a })
    ∙ sym (put24_laid (four_bytes (first_word p.traffic_class p.flow_label)) (two_bytes (length p.payload)) p.next_header p.hop_limit
    (address_bytes p.source) (address_bytes p.destination) (address_bytes a) p.payload
    (length_four_bytes (first_word p.traffic_class p.flow_label)) (length_two_bytes (length p.payload)) (length_address_bytes p.source)
    (length_address_bytes p.destination))
    ∙ ap (λ xs. take 24 xs ++ (address_bytes a ++ drop 40 xs)) (sym (spelling_laid_alone p))

header_same_length : (p : Packet) (xs : List ℕ) → length xs ≡ length p.payload
    → header_spelling (record p { payload = xs }) ≡ header_spelling p
unfolding header_spelling
header_same_length p xs e = rw e refl

pub edit_payload : (p : Packet) (k v : ℕ) → spelling (record p { payload = slice_set p.payload k v }) ≡ slice_set (spelling p) (40 + k) v
edit_payload p k v =
    let head = header_same_length p (slice_set p.payload k v) (length-set p.payload k v) in
    let moved : 40 + k - 40 ≡ k = omega arith in
    ap (λ xs. xs ++ slice_set p.payload k v) head
    ∙ sym (set-append_right (header_spelling p) p.payload 40 (40 + k) v (length_header_spelling p) (omega arith)
    ∙ ap (λ n. header_spelling p ++ slice_set p.payload n v) moved)
