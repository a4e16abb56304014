-- The parts of a packet's fixed header, and its first word.
use Rattle.std.proofs.Common.{◌/◌, ◌%◌, ◌≡◌, ℕ, ◌+◌, ◌-◌, ◌^◌, ◌<◌, ◌≤◌, List, ◌∷◌, ◌++◌, length, drop, slice_index, All, refl, sym, ap, ◌∙◌, arith, inl, inr, ◌⊎◌, length-append}
use Rattle.std.proofs.lemmas.Bool.{cases_lt}
use Rattle.std.proofs.lemmas.List.{append_assoc, drop_at, drop-drop, get_or-drop, get_or_append_left}
use Rattle.srv6_rules.specs.Packet.{first_word, four_bytes, four_number}
use Rattle.srv6_rules.proofs.Bytes.{byte_below}

-- ---- the parts of a header of 4, 2, 1, 1, 16 and 16 bytes with more after it

unfoldable pub laid : List ℕ → List ℕ → ℕ → ℕ → List ℕ → List ℕ → List ℕ → List ℕ
laid a b n h s d r = a ++ (b ++ (n ∷ h ∷ (s ++ (d ++ r))))

module _ (a b : List ℕ) (n h : ℕ) (s d r : List ℕ) (la : length a ≡ 4) (lb : length b ≡ 2) (ls : length s ≡ 16) (ld : length d ≡ 16) where
  pub drop4_laid : drop 4 (laid a b n h s d r) ≡ b ++ (n ∷ h ∷ (s ++ (d ++ r)))
  unfolding laid
  drop4_laid = drop_at a (b ++ (n ∷ h ∷ (s ++ (d ++ r)))) 4 la

  pub drop6_laid : drop 6 (laid a b n h s d r) ≡ n ∷ h ∷ (s ++ (d ++ r))
  drop6_laid = sym (drop-drop 2 4 (laid a b n h s d r)) ∙ ap (drop 2) drop4_laid ∙ drop_at b (n ∷ h ∷ (s ++ (d ++ r))) 2 lb

  pub drop8_laid : drop 8 (laid a b n h s d r) ≡ s ++ (d ++ r)
  drop8_laid = sym (drop-drop 2 6 (laid a b n h s d r)) ∙ ap (drop 2) drop6_laid

  pub drop24_laid : drop 24 (laid a b n h s d r) ≡ d ++ r
  drop24_laid = sym (drop-drop 16 8 (laid a b n h s d r)) ∙ ap (drop 16) drop8_laid ∙ drop_at s (d ++ r) 16 ls

  pub drop40_laid : drop 40 (laid a b n h s d r) ≡ r
  drop40_laid = sym (drop-drop 16 24 (laid a b n h s d r)) ∙ ap (drop 16) drop24_laid ∙ drop_at d r 16 ld

  pub six_laid : slice_index (laid a b n h s d r) 6 ≡ n
  six_laid = sym (get_or-drop 6 (laid a b n h s d r) 0 0) ∙ ap (λ xs. slice_index xs 0) drop6_laid

  pub seven_laid : slice_index (laid a b n h s d r) 7 ≡ h
  seven_laid = sym (get_or-drop 6 (laid a b n h s d r) 1 0) ∙ ap (λ xs. slice_index xs 1) drop6_laid

  pub length_laid : length (laid a b n h s d r) ≡ 40 + length r
  unfolding laid
  length_laid = simp length-append (omega arith)

-- a byte of what is laid out, by its place
front_laid : (a b : List ℕ) (n h : ℕ) (s d r : List ℕ) (k : ℕ) → length a ≡ 4 → length b ≡ 2 → k < 6
    → slice_index (laid a b n h s d r) k ≡ slice_index (a ++ b) k
unfolding laid
front_laid a b n h s d r k la lb below =
    ap (λ xs. slice_index xs k) (sym (append_assoc a b (n ∷ h ∷ (s ++ (d ++ r)))))
    ∙ get_or_append_left (a ++ b) (n ∷ h ∷ (s ++ (d ++ r))) 0 k (omega (arith, length-append a b))

source_laid : (a b : List ℕ) (n h : ℕ) (s d r : List ℕ) (k : ℕ) → length a ≡ 4 → length b ≡ 2 → length s ≡ 16 → length d ≡ 16 → 8 ≤ k
    → k < 24
    → slice_index (laid a b n h s d r) k ≡ slice_index s (k - 8)
source_laid a b n h s d r k la lb ls ld from below =
    let sum : k ≡ 8 + (k - 8) = omega arith in
    ap (slice_index (laid a b n h s d r)) sum
    ∙ sym (get_or-drop 8 (laid a b n h s d r) (k - 8) 0)
    ∙ ap (λ xs. slice_index xs (k - 8)) (drop8_laid a b n h s d r la lb ls ld)
    ∙ get_or_append_left s (d ++ r) 0 (k - 8) (omega arith)

rest_laid : (a b : List ℕ) (n h : ℕ) (s d r : List ℕ) (k : ℕ) → length a ≡ 4 → length b ≡ 2 → length s ≡ 16 → length d ≡ 16 → 40 ≤ k
    → slice_index (laid a b n h s d r) k ≡ slice_index r (k - 40)
rest_laid a b n h s d r k la lb ls ld from =
    let sum : k ≡ 40 + (k - 40) = omega arith in
    ap (slice_index (laid a b n h s d r)) sum
    ∙ sym (get_or-drop 40 (laid a b n h s d r) (k - 40) 0)
    ∙ ap (λ xs. slice_index xs (k - 40)) (drop40_laid a b n h s d r la lb ls ld)

-- bytes that are laid out alike but for a number and a part agree elsewhere
pub agree_laid : (a b : List ℕ) (n h h' : ℕ) (s d d' r r' : List ℕ) → length a ≡ 4 → length b ≡ 2 → length s ≡ 16 → length d ≡ 16
    → length d' ≡ 16
    → (k : ℕ) → (k ≡ 7 → ⊥) → (k < 24) ⊎ (40 ≤ k) → (40 ≤ k → slice_index r (k - 40) ≡ slice_index r' (k - 40))
    → slice_index (laid a b n h s d r) k ≡ slice_index (laid a b n h' s d' r') k
agree_laid a b n h h' s d d' r r' la lb ls ld ld' k not_seven side behind = elim (cases_lt k 6) [
  | inl front ↦ front_laid a b n h s d r k la lb front ∙ sym (front_laid a b n h' s d' r' k la lb front)
  | inr six ↦ elim (cases_lt k 7) [
    | inl low ↦
        let same : k ≡ 6 = omega arith in
        rw same (six_laid a b n h s d r la lb ls ld ∙ sym (six_laid a b n h' s d' r' la lb ls ld'))
    | inr seven ↦ elim side [
      | inl middle ↦
          let past : 8 ≤ k = omega arith in
          source_laid a b n h s d r k la lb ls ld past middle ∙ sym (source_laid a b n h' s d' r' k la lb ls ld' past middle)
      | inr rest ↦ rest_laid a b n h s d r k la lb ls ld rest ∙ behind rest ∙ sym (rest_laid a b n h' s d' r' k la lb ls ld' rest)
    ]
  ]
]

-- ---- the first word

pub first_word_below : (t f : ℕ) → t < 2 ^ 8 → f < 2 ^ 20 → first_word t f < 2 ^ 32
unfolding first_word
first_word_below t f ht hf = omega arith

pub first_word_class : (t f : ℕ) → t < 2 ^ 8 → f < 2 ^ 20 → first_word t f / 2 ^ 20 % 2 ^ 8 ≡ t
unfolding first_word
first_word_class t f ht hf = omega arith

pub first_word_label : (t f : ℕ) → t < 2 ^ 8 → f < 2 ^ 20 → first_word t f % 2 ^ 20 ≡ f
unfolding first_word
first_word_label t f ht hf = omega arith

-- a word that begins with 6 is made of its parts
pub first_word_parts : (w : ℕ) → w / 2 ^ 28 ≡ 6 → first_word (w / 2 ^ 20 % 2 ^ 8) (w % 2 ^ 20) ≡ w
unfolding first_word
first_word_parts w h = omega arith

-- the first byte of a word
first_byte : (w : ℕ) (rest : List ℕ) → slice_index (four_bytes w ++ rest) 0 ≡ w / 2 ^ 24 % 2 ^ 8
unfolding four_bytes
first_byte w rest = refl

pub first_word_version : (t f : ℕ) (rest : List ℕ) → t < 2 ^ 8 → f < 2 ^ 20 → slice_index (four_bytes (first_word t f) ++ rest) 0 / 16 ≡ 6
unfolding first_word
first_word_version t f rest ht hf = rw (first_byte (first_word t f) rest) (omega arith)

-- the first half byte of the number in four bytes
pub four_number_version : (bytes : List ℕ) → All (λ b. b < 2 ^ 8) bytes → four_number bytes / 2 ^ 28 ≡ slice_index bytes 0 / 16
unfolding four_number
four_number_version bytes h =
    let b0 = byte_below bytes 0 h in
    let b1 = byte_below bytes 1 h in
    let b2 = byte_below bytes 2 h in
    let b3 = byte_below bytes 3 h in
    omega arith
