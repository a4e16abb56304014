-- Sums of 16-bit words in one's complement.
use Rattle.std.proofs.Common.{◌≡◌, ℕ, zero, suc, ◌+◌, ◌-◌, ◌*◌, ◌/◌, ◌%◌, ◌^◌, ◌<◌, ◌≤◌, List, [], ◌∷◌, ◌++◌, length, All, refl, sym, ap, ◌∙◌, arith, inl, inr, add_assoc, zero-add}
use Rattle.std.proofs.lemmas.Bool.{cases_lt, lt-ltb, le-ltb}
use Rattle.std.proofs.lemmas.List.Elements.{All-head, All-tail}
use Rattle.srv6_rules.specs.Checksum.{all_ones, ones_add, ones_sum}
use Rattle.srv6_rules.specs.ChecksumTerms.{word_sum, carried}

-- ---- carries

pub carried_small : (n : ℕ) → n < 2 ^ 16 → carried n ≡ n
unfolding carried
carried_small zero h = refl
carried_small (suc n) h = omega arith

pub carried_above : (n : ℕ) → 0 < n → carried n ≡ (n - 1) % 65535 + 1
unfolding carried
carried_above zero h = absurd (omega arith)
carried_above (suc n) h = let e : suc n - 1 ≡ n = omega arith in rw e refl

pub carried_again : (n : ℕ) → carried (n / 2 ^ 16 + n % 2 ^ 16) ≡ carried n
carried_again zero = refl
carried_again (suc n) =
    let m : ℕ = suc n / 2 ^ 16 + suc n % 2 ^ 16 in
    let some : 0 < m = omega arith in
    let same : (m - 1) % 65535 ≡ (suc n - 1) % 65535 = omega arith in
    carried_above m some ∙ ap (λ k. k + 1) same ∙ sym (carried_above (suc n) (omega arith))

-- a number and the one's complement of its carried sum make all ones
pub carried_complement : (n : ℕ) → carried (n + (all_ones - carried n)) ≡ all_ones
carried_complement zero =
    let none : carried 0 ≡ 0 = carried_small 0 (omega arith) in
    let sum : 0 + (all_ones - carried 0) ≡ all_ones = omega arith in
    ap carried sum ∙ carried_small all_ones (omega arith)
carried_complement (suc n) =
    let low : carried (suc n) ≡ n % 65535 + 1 = carried_above (suc n) (omega arith) ∙ ap (λ k. k % 65535 + 1) (omega arith) in
    let m : ℕ = suc n + (65535 - carried (suc n)) in
    let some : 0 < m = omega arith in
    let full : (m - 1) % 65535 + 1 ≡ 65535 = omega arith in
    carried_above m some ∙ full

ones_add_small : (w n : ℕ) → w + n < 2 ^ 16 → ones_add w n ≡ w + n
ones_add_small w n h = rw (lt-ltb (w + n) (2 ^ 16) h) refl

ones_add_large : (w n : ℕ) → 2 ^ 16 ≤ w + n → ones_add w n ≡ w + n - 2 ^ 16 + 1
ones_add_large w n h = rw (le-ltb (w + n) (2 ^ 16) h) refl

-- a word more
ones_add_carried : (w n : ℕ) → w < 2 ^ 16 → ones_add w (carried n) ≡ carried (w + n)
ones_add_carried w zero h =
    let none : carried 0 ≡ 0 = carried_small 0 (omega arith) in
    let sum : w + 0 ≡ w = omega arith in
    ap (ones_add w) none ∙ ones_add_small w 0 (omega arith) ∙ sum ∙ sym (ap carried sum ∙ carried_small w h)
ones_add_carried w (suc n) h =
    let low : carried (suc n) ≡ n % 65535 + 1 = carried_above (suc n) (omega arith) ∙ ap (λ k. k % 65535 + 1) (omega arith) in
    let up : carried (w + suc n) ≡ (w + suc n - 1) % 65535 + 1 = carried_above (w + suc n) (omega arith) in
    elim (cases_lt (w + carried (suc n)) (2 ^ 16)) [
      | inl small ↦ ones_add_small w (carried (suc n)) small ∙ (omega arith)
      | inr large ↦ ones_add_large w (carried (suc n)) large ∙ (omega arith)
    ]

-- ---- sums of words

pub word_sum_append : (xs ys : List ℕ) → length xs % 2 ≡ 0 → word_sum (xs ++ ys) ≡ word_sum xs + word_sum ys
unfolding word_sum
word_sum_append [] ys even = sym (zero-add (word_sum ys))
word_sum_append (x ∷ []) ys even = absurd (omega arith)
word_sum_append (x ∷ y ∷ xs) ys even =
    let rest : length xs % 2 ≡ 0 = omega arith in
    ap (λ n. x * 2 ^ 8 + y + n) (word_sum_append xs ys rest) ∙ sym (add_assoc (x * 2 ^ 8 + y) (word_sum xs) (word_sum ys))

pub ones_sum_carried : (bytes : List ℕ) → All (λ b. b < 2 ^ 8) bytes → ones_sum bytes ≡ carried (word_sum bytes)
unfolding ones_sum word_sum
ones_sum_carried [] all = sym (carried_small 0 (omega arith))
ones_sum_carried (x ∷ []) all =
    let P : ℕ → Type 0 = λ b. b < 2 ^ 8 in
    let hx : x < 2 ^ 8 = All-head P x [] all in
    sym (carried_small (x * 2 ^ 8) (omega arith))
ones_sum_carried (x ∷ y ∷ bytes) all =
    let P : ℕ → Type 0 = λ b. b < 2 ^ 8 in
    let hx : x < 2 ^ 8 = All-head P x (y ∷ bytes) all in
    let tail = All-tail P x (y ∷ bytes) all in
    let hy : y < 2 ^ 8 = All-head P y bytes tail in
    let rest = ones_sum_carried bytes (All-tail P y bytes tail) in
    ap (ones_add (x * 2 ^ 8 + y)) rest ∙ ones_add_carried (x * 2 ^ 8 + y) (word_sum bytes) (omega arith)
