-- Words of a line, in which no line feed, no space and no `@` stands, and how texts are cut between them.
use Rattle.std.proofs.Common.{◌≡◌, ℕ, ◌+◌, ◌-◌, ◌*◌, ◌/◌, ◌%◌, ◌^◌, ◌<◌, Bool, true, false, cond, ◌==◌, ◌&&◌, ◌||◌, nat_lt, nat_le, List, [], ◌∷◌, ◌++◌, length, drop, get_or, Option, Some, None, All, position, slice_index, option_and_then, refl, sym, ◌∙◌, ap, subst, inl, inr, arith, length-append}
use Rattle.std.specs.Char.{is_ascii_digit}
use Rattle.std.specs.Fmt.{decimal}
use Rattle.std.specs.List.{slice_split, position_or_len}
use Rattle.std.proofs.Math.Seq.{take-append_seam, drop-append-add, get_or-append_seam}
use Rattle.std.proofs.lemmas.Bool.{and_from, and_right, or_from, or_parts, eq-eqb, ne_eqb, lt-ltb, le-ltb, le-leb, cond-true, cond-false, cases_lt}
use Rattle.std.proofs.lemmas.Fmt.{decimal_by_steps, decimal_nonempty, first_decimal, decimal_digit}
use Rattle.std.proofs.lemmas.List.{get_or_append_left}
use Rattle.std.proofs.lemmas.List.Elements.{All-nil, All-cons, All-append}
use Rattle.std.proofs.lemmas.List.Splits.{slice_split_at}
use Rattle.std.proofs.lemmas.List.Sums.{position_or_len_is}
use Rattle.list_certificate.specs.CertificateReading.{Cut, cut_by, cut_at, digit_after, digits_from, number_in}

-- ---- where a mark stands

abbrev pub Lacks : ℕ → List ℕ → Type 0
Lacks mark text = All (λ b. (b == mark) ≡ false) text

seam : (mark : ℕ) (front rest : List ℕ) → Lacks mark front → position_or_len (λ b. b == mark) (front ++ mark ∷ rest) ≡ length front
seam mark front rest none =
    let is : ℕ → Bool = λ b. b == mark in
    position_or_len_is is (front ++ mark ∷ rest) (length front) 0 (omega (arith, length-append front (mark ∷ rest)))
    (λ k below. ap is (get_or_append_left front (mark ∷ rest) 0 k below) ∙ none k 0 below)
    (λ inside. ap is (get_or-append_seam front mark rest 0) ∙ eq-eqb mark mark refl)

abbrev found_by : List ℕ → ℕ → Option ℕ
found_by text n = cond (nat_lt n (length text)) (Some n) None

-- a text is cut at the first mark
pub cut_first : (mark : ℕ) (front rest : List ℕ) → Lacks mark front
    → cut_at mark (front ++ mark ∷ rest) ≡ Some (record { front = front; rest = rest })
unfolding cut_at
cut_first mark front rest none =
    let text = front ++ mark ∷ rest in
    let within : length front < length text = omega (arith, length-append front (mark ∷ rest)) in
    let found : position (λ b. b == mark) text ≡ Some (length front) =
    ap (found_by text) (seam mark front rest none) ∙ cond-true _ _ _ (lt-ltb (length front) (length text) within) in
    ap (cut_by text) found
    ∙ ap (λ (xs : List ℕ). let c : Cut = record { front = xs; rest = drop (length front + 1) text } in Some c)
    (take-append_seam front (mark ∷ rest))
    ∙ ap (λ (xs : List ℕ). let c : Cut = record { front = front; rest = xs } in Some c) (drop-append-add front (mark ∷ rest) 1)

pub cut_none : (mark : ℕ) (text : List ℕ) → Lacks mark text → cut_at mark text ≡ None
unfolding cut_at
cut_none mark text none =
    let place : position_or_len (λ b. b == mark) text ≡ length text =
    position_or_len_is (λ b. b == mark) text (length text) 0 (omega arith) (λ k below. none k 0 below)
    (λ inside. absurd (omega (arith, inside))) in
    let lost : position (λ b. b == mark) text ≡ None =
    ap (found_by text) place ∙ cond-false _ _ _ (le-ltb (length text) (length text) (omega arith)) in
    ap (cut_by text) lost

-- a text's first line
pub split_line : (line rest : List ℕ) → Lacks 10 line
    → slice_split (λ b. b == 10) (line ++ 10 ∷ rest) ≡ line ∷ slice_split (λ b. b == 10) rest
split_line line rest none = slice_split_at (λ b. b == 10) line 10 rest none refl

-- ---- words

abbrev pub is_mark : ℕ → Bool
is_mark b = (b == 10) || ((b == 32) || (b == 64))

abbrev pub IsWord : List ℕ → Type 0
IsWord text = All (λ b. is_mark b ≡ false) text

pub word_feed : (text : List ℕ) → IsWord text → Lacks 10 text
word_feed text word k d h =
    let b = get_or text k d in
    (or_parts (b == 10) ((b == 32) || (b == 64)) (word k d h)).0

pub word_space : (text : List ℕ) → IsWord text → Lacks 32 text
word_space text word k d h =
    let b = get_or text k d in
    (or_parts (b == 32) (b == 64) (or_parts (b == 10) ((b == 32) || (b == 64)) (word k d h)).1).0

pub word_at : (text : List ℕ) → IsWord text → Lacks 64 text
word_at text word k d h =
    let b = get_or text k d in
    (or_parts (b == 32) (b == 64) (or_parts (b == 10) ((b == 32) || (b == 64)) (word k d h)).1).1

pub no_mark : (b : ℕ) → (b ≡ 10 → ⊥) → (b ≡ 32 → ⊥) → (b ≡ 64 → ⊥) → is_mark b ≡ false
no_mark b feed space at =
    or_from (b == 10) ((b == 32) || (b == 64)) (ne_eqb b 10 feed) (or_from (b == 32) (b == 64) (ne_eqb b 32 space) (ne_eqb b 64 at))

pub lacks_joined : (mark : ℕ) (xs ys : List ℕ) → Lacks mark xs → Lacks mark ys → Lacks mark (xs ++ ys)
lacks_joined mark xs ys h k = All-append (λ b. (b == mark) ≡ false) xs ys h k

pub lacks_mark : (mark b : ℕ) (xs : List ℕ) → (b == mark) ≡ false → Lacks mark xs → Lacks mark (b ∷ xs)
lacks_mark mark b xs e h = All-cons (λ x. (x == mark) ≡ false) b xs e h

-- ---- numbers

digit_plain : (d : ℕ) → d < 10 → is_mark (48 + d) ≡ false
digit_plain d h =
    no_mark (48 + d) (λ e. absurd (omega (arith, e))) (λ e. absurd (omega (arith, e))) (λ e. absurd (omega (arith, h, e)))

-- a number's digits are a word
pub decimal_word : (n : ℕ) → n < 2 ^ 64 → IsWord (decimal n)
decimal_word n h =
    decimal_by_steps (λ m ds. IsWord ds)
    (λ m small. All-cons (λ b. is_mark b ≡ false) (48 + m) [] (digit_plain m small) (All-nil (λ b. is_mark b ≡ false)))
    (λ m ds large word.
    All-append (λ b. is_mark b ≡ false) ds ((48 + m % 10) ∷ []) word
    (All-cons (λ b. is_mark b ≡ false) (48 + m % 10) [] (digit_plain (m % 10) (omega arith)) (All-nil (λ b. is_mark b ≡ false)))) n h

then_some : (o : Option ℕ) → option_and_then (λ m. Some m) o ≡ o
then_some None = refl
then_some (Some m) = refl

end_by : (ds : List ℕ) (b : ℕ) → ((k : ℕ) → digits_from k (ds ++ b ∷ []) ≡ option_and_then (λ m. digit_after m b) (digits_from k ds))
    → (o : Option ℕ)
    → option_and_then (λ k. digits_from k (ds ++ b ∷ [])) o
    ≡ option_and_then (λ m. digit_after m b) (option_and_then (λ k. digits_from k ds) o)
end_by ds b h None = refl
end_by ds b h (Some k) = h k

digits_end : (ds : List ℕ) (b k : ℕ) → digits_from k (ds ++ b ∷ []) ≡ option_and_then (λ m. digit_after m b) (digits_from k ds)
digits_end [] b k = then_some (digit_after k b)
digits_end (c ∷ cs) b k = end_by cs b (digits_end cs b) (digit_after k c)

digit_read : (k d n : ℕ) → d < 10 → 10 * k + d ≡ n → n < 2 ^ 32 → digit_after k (48 + d) ≡ Some n
digit_read k d n small is fits =
    let digit : is_ascii_digit (48 + d) ≡ true =
    and_from (nat_le 48 (48 + d)) (nat_le (48 + d) 57) (le-leb 48 (48 + d) (omega arith)) (le-leb (48 + d) 57 (omega (arith, small))) in
    let same : 10 * k + (48 + d - 48) ≡ n = omega (arith, is) in
    let below : nat_lt (10 * k + (48 + d - 48)) (2 ^ 32) ≡ true =
    lt-ltb (10 * k + (48 + d - 48)) (2 ^ 32) (subst (λ (x : ℕ). x < 2 ^ 32) (sym same) fits) in
    cond-true _ _ _ (and_from (is_ascii_digit (48 + d)) (nat_lt (10 * k + (48 + d - 48)) (2 ^ 32)) digit below)
    ∙ ap (λ (x : ℕ). Some x) same

digits_read : (n : ℕ) → n < 2 ^ 64 → n < 2 ^ 32 → digits_from 0 (decimal n) ≡ Some n
digits_read n h =
    decimal_by_steps (λ m ds. m < 2 ^ 32 → digits_from 0 ds ≡ Some m)
    (λ m small fits. ap (option_and_then (λ k. Some k)) (digit_read 0 m m small (omega arith) fits))
    (λ m ds large so fits.
    digits_end ds (48 + m % 10) 0
    ∙ ap (option_and_then (λ k. digit_after k (48 + m % 10))) (so (omega (arith, fits)))
    ∙ digit_read (m / 10) (m % 10) m (omega arith) (omega arith) fits) n h

no_zero : (n : ℕ) → n < 2 ^ 64 → (nat_lt 1 (length (decimal n)) && (slice_index (decimal n) 0 == 48)) ≡ false
no_zero n h =
    elim (cases_lt 0 n) as (λ w. (nat_lt 1 (length (decimal n)) && (slice_index (decimal n) 0 == 48)) ≡ false) [
      | inl some ↦
          let first = first_decimal n some h in
          and_right (nat_lt 1 (length (decimal n))) (slice_index (decimal n) 0 == 48)
          (ne_eqb (slice_index (decimal n) 0) 48 (λ e. absurd (omega (arith, first, e))))
      | inr none ↦
          let one = decimal_digit n (omega (arith, none)) in
          ap (λ (ds : List ℕ). nat_lt 1 (length ds) && (slice_index ds 0 == 48)) one
    ]

-- a number of 32 bits is read back
pub number_read : (n : ℕ) → n < 2 ^ 32 → number_in (decimal n) ≡ Some n
unfolding number_in
number_read n fits =
    let h : n < 2 ^ 64 = omega (arith, fits) in
    let some = decimal_nonempty n h in
    let not_empty : (length (decimal n) == 0) ≡ false = ne_eqb (length (decimal n)) 0 (λ e. absurd (omega (arith, some, e))) in
    cond-false _ _ _ (or_from (length (decimal n) == 0) (nat_lt 1 (length (decimal n)) && (slice_index (decimal n) 0 == 48)) not_empty
    (no_zero n h))
    ∙ digits_read n h fits
