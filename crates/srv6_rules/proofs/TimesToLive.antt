-- A time to live of an IPv4 packet that is lower by one, and what its checksum comes to.
use Rattle.std.proofs.Common.{◌≡◌, ℕ, zero, suc, ◌+◌, ◌-◌, ◌*◌, ◌/◌, ◌%◌, ◌^◌, ◌<◌, ◌≤◌, ◌≢◌, List, [], ◌∷◌, ◌++◌, length, take, drop, slice_index, slice_set, All, refl, sym, ap, subst, ◌∙◌, arith, inl, inr, append_assoc, length-append, length-drop}
use Rattle.std.proofs.lemmas.Bool.{cases_lt, le-ltb, lt-ltb}
use Rattle.std.proofs.lemmas.List.{drop_at, drop-drop, drop-append-le, take-append-le, take-append-drop, take-set-le, length-take-le, length-set, get_or-take, get_or_append_left, get_or-append_right, get_or-drop, get_or-set_other, get_or-set_same, drop-set-lt, set-append_left}
use Rattle.std.proofs.lemmas.List.Elements.{All-append, All-take, All-drop, All-set}
use Rattle.srv6_rules.specs.Packet.{two_bytes, two_number}
use Rattle.srv6_rules.specs.Packet4.{Packet4, IsSpellable4, spelling4, stated_header_len, total_len, ttl, header_checksum, checksum_lowered, ttl_lowered, lowered4}
use Rattle.srv6_rules.specs.Checksum.{all_ones, ones_sum}
use Rattle.srv6_rules.specs.ChecksumTerms.{word_sum, carried}
use Rattle.srv6_rules.proofs.Bytes.{length_two_bytes, all_two_bytes, two_number_bytes, two_number_below, two_bytes_number}
use Rattle.srv6_rules.proofs.Checksums.{ones_sum_carried, word_sum_append, carried_above}
use Rattle.srv6_rules.proofs.CutPackets.{take_front}
use Rattle.srv6_rules.proofs.Packets4.{checksum_front, total_first8}

-- ---- bytes with two of them written

-- the bytes before and after what is written are as they were
written_other : (xs w : List ℕ) (k : ℕ) → length w ≡ 2 → 12 ≤ length xs → (k < 10 → ⊥) → (k ≡ 10 → ⊥) → (k ≡ 11 → ⊥)
    → slice_index (take 10 xs ++ (w ++ drop 12 xs)) k ≡ slice_index xs k
written_other xs w k two long past ten eleven =
    let front : length (take 10 xs) ≡ 10 = length-take-le 10 xs (omega arith) in
    let far : 12 ≤ k = elim (cases_lt k 10) [ inl low ↦ absurd (past low) | inr high ↦ higher k high ten eleven ] in
    let sum : 12 + (k - 10 - 2) ≡ k = omega arith in
    get_or-append_right (take 10 xs) (w ++ drop 12 xs) 10 k 0 front (omega arith)
    ∙ get_or-append_right w (drop 12 xs) 2 (k - 10) 0 two (omega arith)
    ∙ get_or-drop 12 xs (k - 10 - 2) 0
    ∙ ap (slice_index xs) sum
  where
    higher : (n : ℕ) → 10 ≤ n → (n ≡ 10 → ⊥) → (n ≡ 11 → ⊥) → 12 ≤ n
    higher n h a b = elim (cases_lt n 12) [
      | inl low ↦ elim (cases_lt n 11) [
        | inl ten ↦ absurd (a (omega arith))
        | inr eleven ↦ absurd (b (omega arith))
      ]
      | inr high ↦ high
    ]

written_front : (xs w : List ℕ) (k : ℕ) → 12 ≤ length xs → k < 10 → slice_index (take 10 xs ++ (w ++ drop 12 xs)) k ≡ slice_index xs k
written_front xs w k long low =
    let front : length (take 10 xs) ≡ 10 = length-take-le 10 xs (omega arith) in
    get_or_append_left (take 10 xs) (w ++ drop 12 xs) 0 k (omega arith) ∙ get_or-take 10 xs k 0 low

-- ---- a time to live that is lower by one

lowered_below : (c : ℕ) → c < 2 ^ 16 → checksum_lowered c < 2 ^ 16
lowered_below c below = elim (cases_lt c 65279) [
  | inl low ↦ rw (lt-ltb c 65279 low) (omega arith)
  | inr high ↦ rw (le-ltb c 65279 high) (omega arith)
]

module _ (xs : List ℕ) (long : 20 ≤ length xs) where
  fewer : List ℕ
  fewer = slice_set xs 8 (slice_index xs 8 - 1)

  new : ℕ
  new = checksum_lowered (header_checksum xs)

  new_is : new ≡ checksum_lowered (header_checksum xs)
  unfolding new
  new_is = refl

  fewer_length : length fewer ≡ length xs
  unfolding fewer
  fewer_length = length-set xs 8 (slice_index xs 8 - 1)

  written : ttl_lowered xs ≡ take 10 fewer ++ (two_bytes new ++ drop 12 fewer)
  unfolding ttl_lowered fewer new two_bytes
  written = refl

  pub ttl_lowered_length : length (ttl_lowered xs) ≡ length xs
  ttl_lowered_length =
      let len = fewer_length in
      let front : length (take 10 fewer) ≡ 10 = length-take-le 10 fewer (omega arith) in
      ap length written
      ∙ length-append (take 10 fewer) (two_bytes new ++ drop 12 fewer)
      ∙ ap (λ n. length (take 10 fewer) + n) (length-append (two_bytes new) (drop 12 fewer))
      ∙ (omega (arith, length_two_bytes new, length-drop 12 fewer))

  fewer_ttl : slice_index fewer 8 ≡ slice_index xs 8 - 1
  unfolding fewer
  fewer_ttl = get_or-set_same xs 8 (slice_index xs 8 - 1) 0 (omega arith)

  pub ttl_lowered_ttl : slice_index (ttl_lowered xs) 8 ≡ slice_index xs 8 - 1
  ttl_lowered_ttl =
      let len = fewer_length in
      ap (λ ys. slice_index ys 8) written ∙ written_front fewer (two_bytes new) 8 (omega arith) (omega arith) ∙ fewer_ttl

  -- the first 8 bytes are as they were, the total length among them
  ttl_lowered_first8 : take 8 (ttl_lowered xs) ≡ take 8 xs
  unfolding fewer
  ttl_lowered_first8 =
      let len = fewer_length in
      ap (take 8) written
      ∙ take-append-le 8 (take 10 fewer) (two_bytes new ++ drop 12 fewer) (omega (arith, length-take-le 10 fewer (omega arith)))
      ∙ take_front 8 10 fewer (omega arith)
      ∙ take-set-le 8 xs 8 (slice_index xs 8 - 1) (omega arith)

  pub ttl_lowered_total : total_len (ttl_lowered xs) ≡ total_len xs
  ttl_lowered_total =
      let len = ttl_lowered_length in
      total_first8 (ttl_lowered xs) (omega arith) ∙ ap total_len ttl_lowered_first8 ∙ sym (total_first8 xs (omega arith))

  fewer_other : (k : ℕ) → k ≢ 8 → slice_index fewer k ≡ slice_index xs k
  unfolding fewer
  fewer_other k other = get_or-set_other xs 8 k (slice_index xs 8 - 1) 0 other

  pub ttl_lowered_other : (k : ℕ) → k ≢ 8 → k ≢ 10 → k ≢ 11 → slice_index (ttl_lowered xs) k ≡ slice_index xs k
  ttl_lowered_other k eight ten eleven =
      let len = fewer_length in
      ap (λ ys. slice_index ys k) written ∙ elim (cases_lt k 10) [
        | inl low ↦ written_front fewer (two_bytes new) k (omega arith) low ∙ fewer_other k eight
        | inr high ↦ written_other fewer (two_bytes new) k (length_two_bytes new) (omega arith) (λ low. omega arith) ten eleven
            ∙ fewer_other k eight
      ]

  pub ttl_lowered_stated : stated_header_len (ttl_lowered xs) ≡ stated_header_len xs
  unfolding stated_header_len
  ttl_lowered_stated = ap (λ b. 4 * (b % 16)) (ttl_lowered_other 0 (λ e. omega arith) (λ e. omega arith) (λ e. omega arith))

  checksum_there : drop 10 (ttl_lowered xs) ≡ two_bytes new ++ drop 12 fewer
  checksum_there =
      let len = fewer_length in
      ap (drop 10) written ∙ drop_at (take 10 fewer) (two_bytes new ++ drop 12 fewer) 10 (length-take-le 10 fewer (omega arith))

  module _ (all : All (λ b. b < 2 ^ 8) xs) where
    checksum_below : header_checksum xs < 2 ^ 16
    unfolding header_checksum two_number
    checksum_below = two_number_below (drop 10 xs) (All-drop (λ b. b < 2 ^ 8) 10 xs all)

    new_below : new < 2 ^ 16
    unfolding new
    new_below = lowered_below (header_checksum xs) checksum_below

    pub ttl_lowered_checksum : header_checksum (ttl_lowered xs) ≡ checksum_lowered (header_checksum xs)
    unfolding header_checksum two_number new
    ttl_lowered_checksum = ap two_number checksum_there ∙ two_number_bytes new (drop 12 fewer) new_below

    fewer_all : All (λ b. b < 2 ^ 8) fewer
    unfolding fewer
    fewer_all =
        let was : slice_index xs 8 < 2 ^ 8 = all 8 0 (omega arith) in
        All-set (λ b. b < 2 ^ 8) xs 8 (slice_index xs 8 - 1) (omega arith) all

    pub ttl_lowered_all : All (λ b. b < 2 ^ 8) (ttl_lowered xs)
    ttl_lowered_all =
        let P : ℕ → Type 0 = λ b. b < 2 ^ 8 in
        let Q : List ℕ → Type 0 = λ ys. All P ys in
        subst Q (sym written)
        (All-append P (take 10 fewer) (two_bytes new ++ drop 12 fewer) (All-take P 10 fewer fewer_all)
        (All-append P (two_bytes new) (drop 12 fewer) (all_two_bytes new) (All-drop P 12 fewer fewer_all)))

opened : (ys : List ℕ) → ttl_lowered ys
    ≡ take 10 (slice_set ys 8 (slice_index ys 8 - 1))
    ++ (two_bytes (checksum_lowered (header_checksum ys)) ++ drop 12 (slice_set ys 8 (slice_index ys 8 - 1)))
unfolding ttl_lowered two_bytes
opened ys = refl

-- what stands after a header makes no difference to it
pub ttl_lowered_front : (h rest : List ℕ) → 20 ≤ length h → ttl_lowered (h ++ rest) ≡ ttl_lowered h ++ rest
ttl_lowered_front h rest long =
    let v : ℕ = slice_index h 8 - 1 in
    let f : List ℕ = slice_set h 8 v in
    let len : length f ≡ length h = length-set h 8 v in
    let c : ℕ = checksum_lowered (header_checksum h) in
    let there : slice_index (h ++ rest) 8 ≡ slice_index h 8 = get_or_append_left h rest 0 8 (omega arith) in
    let set : slice_set (h ++ rest) 8 (slice_index (h ++ rest) 8 - 1) ≡ f ++ rest =
    ap (λ b. slice_set (h ++ rest) 8 (b - 1)) there ∙ set-append_left h rest 8 v (omega arith) in
    let same : checksum_lowered (header_checksum (h ++ rest)) ≡ c =
    ap checksum_lowered (checksum_front h rest (omega arith)) in
    opened (h ++ rest)
    ∙ ap (λ ys. take 10 ys ++ (two_bytes (checksum_lowered (header_checksum (h ++ rest))) ++ drop 12 ys)) set
    ∙ ap (λ k. take 10 (f ++ rest) ++ (two_bytes k ++ drop 12 (f ++ rest))) same
    ∙ ap (λ ys. ys ++ (two_bytes c ++ drop 12 (f ++ rest))) (take-append-le 10 f rest (omega arith))
    ∙ ap (λ ys. take 10 f ++ (two_bytes c ++ ys)) (drop-append-le 12 f rest (omega arith))
    ∙ ap (λ ys. take 10 f ++ ys) (sym (append_assoc (two_bytes c) (drop 12 f) rest))
    ∙ sym (append_assoc (take 10 f) (two_bytes c ++ drop 12 f) rest)
    ∙ ap (λ ys. ys ++ rest) (sym (opened h))

pub lowered4_spelling : (p : Packet4) → 20 ≤ length p.header → spelling4 (lowered4 p) ≡ ttl_lowered (spelling4 p)
lowered4_spelling p long = sym (ttl_lowered_front p.header p.payload long)

pub lowered4_other : (p : Packet4) (k : ℕ) → 20 ≤ length p.header → k ≢ 8 → k ≢ 10 → k ≢ 11
    → slice_index (spelling4 (lowered4 p)) k ≡ slice_index (spelling4 p) k
lowered4_other p k long eight ten eleven =
    ap (λ xs. slice_index xs k) (lowered4_spelling p long)
    ∙ ttl_lowered_other (spelling4 p) (omega (arith, length-append p.header p.payload)) k eight ten eleven

pub lowered4_spellable : (p : Packet4) → IsSpellable4 p → IsSpellable4 (lowered4 p)
lowered4_spellable p ok =
    let least = ok.least in
    let h : List ℕ = p.header in
    let len = ttl_lowered_length h least in
    let first : slice_index (ttl_lowered h) 0 ≡ slice_index h 0 =
    ttl_lowered_other h least 0 (λ e. omega arith) (λ e. omega arith) (λ e. omega arith) in
    record {
      version = ap (λ b. b / 16) first ∙ ok.version;
      least = omega arith;
      header_len = len ∙ ok.header_len ∙ sym (ttl_lowered_stated h least);
      total = ttl_lowered_total h least ∙ ok.total ∙ ap (λ n. n + length p.payload) (sym len);
      header = ttl_lowered_all h least ok.header;
      payload = ok.payload;
    }

-- ---- the sum of the words

word_sum_two : (n : ℕ) → n < 2 ^ 16 → word_sum (two_bytes n) ≡ n
unfolding word_sum two_bytes
word_sum_two n below = omega arith

-- another high byte of a word
word_sum_high : (k : ℕ) (xs : List ℕ) (v : ℕ) → 2 * k + 1 < length xs
    → word_sum (slice_set xs (2 * k) v) + slice_index xs (2 * k) * 2 ^ 8 ≡ word_sum xs + v * 2 ^ 8
unfolding word_sum
word_sum_high zero (x ∷ y ∷ xs) v h = omega arith
word_sum_high k [] v h = absurd (omega arith)
word_sum_high k (x ∷ []) v h = absurd (omega arith)
word_sum_high (suc k) (x ∷ y ∷ xs) v h =
    let rest = word_sum_high k xs v (omega arith) in
    let e : 2 * suc k ≡ suc (suc (2 * k)) = omega arith in
    rw e (omega (arith, rest))

-- so many bytes are the sum of the words before a place, of the word there, and of those after
word_sum_parts : (xs : List ℕ) → 12 ≤ length xs
    → word_sum xs ≡ word_sum (take 10 xs) + (word_sum (take 2 (drop 10 xs)) + word_sum (drop 12 xs))
word_sum_parts xs long =
    ap word_sum (sym (take-append-drop 10 xs))
    ∙ word_sum_append (take 10 xs) (drop 10 xs) (ap (λ n. n % 2) (length-take-le 10 xs (omega arith)))
    ∙ ap (λ n. word_sum (take 10 xs) + n)
    (ap word_sum (sym (take-append-drop 2 (drop 10 xs)) ∙ ap (λ ys. take 2 (drop 10 xs) ++ ys) (drop-drop 2 10 xs))
    ∙ word_sum_append (take 2 (drop 10 xs)) (drop 12 xs)
    (ap (λ n. n % 2) (length-take-le 2 (drop 10 xs) (omega (arith, length-drop 10 xs)))))

carried_down : (n : ℕ) → 0 < n → carried (n + 65535) ≡ carried n
carried_down n some = carried_above (n + 65535) (omega arith) ∙ (omega arith) ∙ sym (carried_above n some)

-- a sum of words is at least the first word's high byte
word_sum_first : (xs : List ℕ) → 1 < length xs → slice_index xs 0 ≤ word_sum xs
unfolding word_sum
word_sum_first (x ∷ y ∷ xs) h = omega arith
word_sum_first (x ∷ []) h = absurd (omega arith)
word_sum_first [] h = absurd (omega arith)

module _ (xs : List ℕ) (long : 20 ≤ length xs) (all : All (λ b. b < 2 ^ 8) xs) where
  -- the sum of the words, but for that of the checksum, falls by what one of the time to live weighs
  fewer_sum : 0 < slice_index xs 8 → word_sum (fewer xs long) + 2 ^ 8 ≡ word_sum xs
  unfolding fewer
  fewer_sum some = let e = word_sum_high 4 xs (slice_index xs 8 - 1) (omega arith) in omega arith

  fewer_checksum : word_sum (take 2 (drop 10 (fewer xs long))) ≡ header_checksum xs
  unfolding fewer header_checksum two_number
  fewer_checksum =
      ap (λ ys. word_sum (take 2 ys)) (drop-set-lt 10 xs 8 (slice_index xs 8 - 1) (omega arith))
      ∙ ap word_sum (sym (two_bytes_number (drop 10 xs) (omega (arith, length-drop 10 xs)) (All-drop (λ b. b < 2 ^ 8) 10 xs all)))
      ∙ word_sum_two (two_number (drop 10 xs)) (two_number_below (drop 10 xs) (All-drop (λ b. b < 2 ^ 8) 10 xs all))

  lowered_sum : 0 < slice_index xs 8
      → word_sum (ttl_lowered xs) + 2 ^ 8 + header_checksum xs ≡ word_sum xs + checksum_lowered (header_checksum xs)
  lowered_sum some =
      let len = fewer_length xs long in
      let f : List ℕ = fewer xs long in
      let front : length (take 10 f) ≡ 10 = length-take-le 10 f (omega arith) in
      let was = fewer_sum some in
      let parts = word_sum_parts f (omega arith) in
      let there = fewer_checksum in
      let n : ℕ = new xs long in
      let one = word_sum_append (take 10 f) (two_bytes n ++ drop 12 f) (ap (λ k. k % 2) front) in
      let two = word_sum_append (two_bytes n) (drop 12 f) (ap (λ k. k % 2) (length_two_bytes n)) in
      let sum = word_sum_two n (new_below xs long all) in
      let is = ap word_sum (written xs long) in
      let same = new_is xs long in
      omega arith

  pub ttl_lowered_sum : 0 < slice_index xs 8 → 0 < slice_index xs 0 → ones_sum (ttl_lowered xs) ≡ ones_sum xs
  ttl_lowered_sum some version =
      let first = ttl_lowered_other xs long 0 (λ e. omega arith) (λ e. omega arith) (λ e. omega arith) in
      let len = ttl_lowered_length xs long in
      let least = word_sum_first (ttl_lowered xs) (omega arith) in
      let sum = lowered_sum some in
      ones_sum_carried (ttl_lowered xs) (ttl_lowered_all xs long all)
      ∙ elim (cases_lt (header_checksum xs) 65279) [
        | inl low ↦
            let up : checksum_lowered (header_checksum xs) ≡ header_checksum xs + 256 = rw (lt-ltb (header_checksum xs) 65279 low) refl in
            ap carried (omega arith)
        | inr high ↦
            let down : checksum_lowered (header_checksum xs) ≡ header_checksum xs - 65279 =
            rw (le-ltb (header_checksum xs) 65279 high) refl in
            let same : word_sum (ttl_lowered xs) + 65535 ≡ word_sum xs = omega arith in
            sym (carried_down (word_sum (ttl_lowered xs)) (omega arith)) ∙ ap carried same
      ]
      ∙ sym (ones_sum_carried xs all)

pub lowered4_sum : (p : Packet4) → IsSpellable4 p → 0 < ttl p → ones_sum (lowered4 p).header ≡ ones_sum p.header
lowered4_sum p ok some =
    let version = ok.version in
    ttl_lowered_sum p.header ok.least ok.header some (omega arith)

pub lowered4_verifies : (p : Packet4) → IsSpellable4 p → 0 < ttl p → ones_sum p.header ≡ all_ones
    → ones_sum (lowered4 p).header ≡ all_ones
lowered4_verifies p ok some right = lowered4_sum p ok some ∙ right

pub lowered4_checksum : (p : Packet4) → IsSpellable4 p → header_checksum (lowered4 p).header ≡ checksum_lowered (header_checksum p.header)
lowered4_checksum p ok = ttl_lowered_checksum p.header ok.least ok.header
