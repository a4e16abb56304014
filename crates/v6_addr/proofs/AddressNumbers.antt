-- walks over decimal numbers without leading zeros
use Rattle.std.proofs.Common.{◌≡◌, ℕ, ◌+◌, ◌*◌, ◌/◌, ◌%◌, ◌<◌, ◌≤◌, inl, inr, Bool, true, false, eqb, ltb, cond, List, [], ◌∷◌, ◌++◌, Option, Some, None, sym, ◌∙◌, ap, subst, refl, arith}
use Rattle.std.specs.Prelude.{option_map, option_and_then}
use Rattle.std.specs.Char.{digit_value, digit_char, is_digit}
use Rattle.std.proofs.lemmas.Bool.{lt-ltb, ltb-true, eqb-false, ne_eqb, cond-true, cond-false, cases_lt}
use Rattle.std.proofs.lemmas.Option.{same_Some, none-some}
use Rattle.std.proofs.lemmas.Str.{digit_value-digit_char}
use Rattle.v6_addr.specs.Text.{length_text}
use Rattle.v6_addr.specs.Lengths.{with_digit, next_number}
use Rattle.v6_addr.specs.Scan.{walked}
use Rattle.v6_addr.proofs.GrammarLaws.{some_cond}
use Rattle.v6_addr.proofs.PrefixGrammar.{length_text_1, length_text_2, length_text_3, digit_back}
use Rattle.v6_addr.proofs.AddressWalks.{walked_append, walked_one}

pub other_cond : {A : Type 0} (b : Bool) (o : Option A) (x : A) → cond b None o ≡ Some x → (b ≡ false) × (o ≡ Some x)
other_cond true o x e = absurd (none-some x e)
other_cond false o x e = (refl, e)

-- the text of a number that may not have begun
abbrev pub number_text : Option ℕ → List ℕ
number_text None = []
number_text (Some n) = length_text n

-- one more digit
text_more : (m d : ℕ) → 1 ≤ m → d < 10 → m * 10 + d < 1000 → length_text (m * 10 + d) ≡ length_text m ++ (digit_char d ∷ [])
text_more m d some below few =
    let n = m * 10 + d in
    let last : n % 10 ≡ d = omega arith in
    elim (cases_lt m 10) [
      | inl short ↦
          let first : n / 10 ≡ m = omega arith in
          length_text_2 n (omega arith) (omega arith) ∙ ap (λ x. digit_char x ∷ digit_char (n % 10) ∷ []) first
          ∙ ap (λ x. digit_char m ∷ digit_char x ∷ []) last ∙ ap (λ t. t ++ (digit_char d ∷ [])) (sym (length_text_1 m short))
      | inr long ↦
          let first : n / 100 ≡ m / 10 = omega arith in
          let middle : n / 10 % 10 ≡ m % 10 = omega arith in
          length_text_3 n (omega arith) ∙ ap (λ x. digit_char x ∷ digit_char (n / 10 % 10) ∷ digit_char (n % 10) ∷ []) first
          ∙ ap (λ x. digit_char (m / 10) ∷ digit_char x ∷ digit_char (n % 10) ∷ []) middle
          ∙ ap (λ x. digit_char (m / 10) ∷ digit_char (m % 10) ∷ digit_char x ∷ []) last
          ∙ ap (λ t. t ++ (digit_char d ∷ [])) (sym (length_text_2 m long (omega arith)))
    ]

-- the byte that makes a number of one before it
pub next_spells : (number : Option ℕ) (c n : ℕ) → next_number number c ≡ Some n → n < 1000
    → length_text n ≡ number_text number ++ (c ∷ [])
unfolding next_number with_digit
next_spells None c n e few =
    let parts = some_cond (is_digit c 10) (Some (digit_value c)) n e in
    let digit = ltb-true (digit_value c) 10 parts.0 in
    let same = same_Some (digit_value c) n parts.1 in
    ap length_text (sym same) ∙ length_text_1 (digit_value c) digit ∙ ap (λ x. x ∷ []) (digit_back c digit)
next_spells (Some m) c n e few =
    let d = digit_value c in
    let parts = some_cond (is_digit c 10) (cond (eqb m 0) None (Some (m * 10 + d))) n e in
    let digit = ltb-true d 10 parts.0 in
    let more = other_cond (eqb m 0) (Some (m * 10 + d)) n parts.1 in
    let same = same_Some (m * 10 + d) n more.1 in
    let some : 1 ≤ m = positive m (eqb-false m 0 more.0) in
    ap length_text (sym same) ∙ text_more m d some digit (omega (arith, same, few))
    ∙ ap (λ x. length_text m ++ (x ∷ [])) (digit_back c digit)
  where
    positive : (m : ℕ) → (m ≡ 0 → ⊥) → 1 ≤ m
    positive m other = elim (cases_lt 0 m) [ inl some ↦ some | inr none ↦ absurd (other (omega arith)) ]

-- the first digit of a number, and one more
first_digit : (d : ℕ) → d < 10 → next_number None (digit_char d) ≡ Some d
unfolding next_number with_digit
first_digit d below =
    let value = digit_value-digit_char d (omega arith) in
    let P : ℕ → Type 0 = λ v. cond (ltb v 10) (Some v) None ≡ Some d in
    subst P (sym value) (cond-true _ _ _ (lt-ltb d 10 below))

next_digit : (m d : ℕ) → 1 ≤ m → d < 10 → next_number (Some m) (digit_char d) ≡ Some (m * 10 + d)
unfolding next_number with_digit
next_digit m d some below =
    let value = digit_value-digit_char d (omega arith) in
    let P : ℕ → Type 0 = λ v. cond (ltb v 10) (cond (eqb m 0) None (Some (m * 10 + v))) None ≡ Some (m * 10 + d) in
    subst P (sym value) (cond-true _ _ _ (lt-ltb d 10 below) ∙ cond-false _ _ _ (ne_eqb m 0 (λ e. absurd (omega arith))))

-- a walk that keeps a number, and lets some numbers pass
pub record KeepsNumbers {A : Type 0} (step : A → ℕ → Option A) (at : Option ℕ → A) (pass : ℕ → Option ℕ) : Type 0 where
  pub steps : (number : Option ℕ) (d : ℕ) → d < 10
      → step (at number) (digit_char d) ≡ option_map (λ n. at (Some n)) (option_and_then pass (next_number number (digit_char d)))

first_step : {A : Type 0} (step : A → ℕ → Option A) (at : Option ℕ → A) (pass : ℕ → Option ℕ) (n : ℕ)
    → KeepsNumbers step at pass → n < 10 → pass n ≡ Some n → walked step (at None) (length_text n) ≡ Some (at (Some n))
first_step step at pass n keeps below passes =
    ap (walked step (at None)) (length_text_1 n below) ∙ walked_one step (at None) (digit_char n) ∙ keeps.steps None n below
    ∙ ap (λ o. option_map (λ m. at (Some m)) (option_and_then pass o)) (first_digit n below) ∙ ap (option_map (λ m. at (Some m))) passes

more_step : {A : Type 0} (step : A → ℕ → Option A) (at : Option ℕ → A) (pass : ℕ → Option ℕ) (n : ℕ)
    → KeepsNumbers step at pass → 10 ≤ n → n < 1000 → pass n ≡ Some n
    → walked step (at None) (length_text (n / 10)) ≡ Some (at (Some (n / 10)))
    → walked step (at None) (length_text n) ≡ Some (at (Some n))
more_step step at pass n keeps long few passes before =
    let m = n / 10 in
    let d = n % 10 in
    let sum : m * 10 + d ≡ n = omega arith in
    let some : 1 ≤ m = omega arith in
    let last : d < 10 = omega arith in
    let P : ℕ → Type 0 = λ k. length_text k ≡ length_text m ++ (digit_char d ∷ []) in
    let parts = subst P sum (text_more m d some last (omega arith)) in
    ap (walked step (at None)) parts ∙ walked_append step (at None) (length_text m) (digit_char d ∷ [])
    ∙ ap (option_and_then (λ q. walked step q (digit_char d ∷ []))) before
    ∙ walked_one step (at (Some m)) (digit_char d) ∙ keeps.steps (Some m) d last
    ∙ ap (λ o. option_map (λ k. at (Some k)) (option_and_then pass o)) (next_digit m d some last)
    ∙ ap (λ k. option_map (λ j. at (Some j)) (pass k)) sum ∙ ap (option_map (λ k. at (Some k))) passes

-- the digits of a number lead to it, where each number that they begin with passes
pub number_walked : {A : Type 0} (step : A → ℕ → Option A) (at : Option ℕ → A) (pass : ℕ → Option ℕ) (n : ℕ)
    → KeepsNumbers step at pass → n < 1000 → pass n ≡ Some n → (10 ≤ n → pass (n / 10) ≡ Some (n / 10))
    → (100 ≤ n → pass (n / 100) ≡ Some (n / 100)) → walked step (at None) (length_text n) ≡ Some (at (Some n))
number_walked step at pass n keeps few here tens hundreds =
    elim (cases_lt n 10) [
      | inl one ↦ first_step step at pass n keeps one here
      | inr long ↦ more_step step at pass n keeps long few here (shorter (n / 10) refl (tens long))
    ]
  where
    shorter : (m : ℕ) → m ≡ n / 10 → pass m ≡ Some m → walked step (at None) (length_text m) ≡ Some (at (Some m))
    shorter m is passes =
        elim (cases_lt m 10) [
          | inl one ↦ first_step step at pass m keeps one passes
          | inr long ↦
              let same : m / 10 ≡ n / 100 = omega arith in
              let P : ℕ → Type 0 = λ k. pass k ≡ Some k in
              let first = subst P (sym same) (hundreds (omega arith)) in
              more_step step at pass m keeps long (omega arith) passes (first_step step at pass (m / 10) keeps (omega arith) first)
        ]
