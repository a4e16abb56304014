-- A word that is a number, by what `parse` gives of it.
use Rattle.std.proofs.Common.{◌≡◌, ℕ, ◌^◌, ◌<◌, Bool, true, false, ◌&&◌, ◌||◌, ◌==◌, not, List, [], ◌∷◌, length, slice_index, nat_lt, Err, refl, rules, Option, Some, None, nat_le, ap, ◌∙◌}
use Rattle.std.specs.Prelude.{if◌then◌else◌}
use Rattle.std.specs.Char.{is_ascii_digit}
use Rattle.std.specs.List.{list_all}
use Rattle.std.specs.Str.Parse.{digits_value, ParsesUnsigned}
use Rattle.std.proofs.lemmas.Str.Parse.{IsNumeralModel, numerals_by_value, parse_digits}
use Rattle.trace_replay.specs.TraceGrammar.{is_number, is_numeral, number_in}

pub digits_model : IsNumeralModel (λ ds. list_all is_ascii_digit ds ≡ true) (digits_value 10)
digits_model = numerals_by_value _ (search rules)

and_second : (a b : Bool) → (a && b) ≡ true → b ≡ true
and_second true b h = h
and_second false b h = cc

digits_of : (word : List ℕ) → is_numeral word ≡ true → list_all is_ascii_digit word ≡ true
digits_of word h = and_second ((length word == 1) || not (slice_index word 0 == 48)) (list_all is_ascii_digit word)
    (and_second (not (length word == 0)) (((length word == 1) || not (slice_index word 0 == 48)) && list_all is_ascii_digit word) h)

some_digits : (word : List ℕ) → is_numeral word ≡ true → 0 < length word
some_digits [] h = cc
some_digits (first ∷ more) h = search rules

refused_by : (word : List ℕ) (small : Bool) → nat_lt (digits_value 10 word) (2 ^ 32) ≡ small → is_numeral word ≡ true
    → (digits_value 10 word < 2 ^ 32 → ⊥) → None ≡ number_in word
refused_by word false is digits great = rw (digits, is) refl
refused_by word true is digits great = absurd (great (search rules))

pub number_refused : (E : Type 0) (word : List ℕ) (fault : E) → is_numeral word ≡ true → ParsesUnsigned {E = E} 32 10 word (Err fault)
    → None ≡ number_in word
number_refused E word fault digits parsed =
    let h = parse_digits digits_model {E = E} 32 word (Err fault) parsed (digits_of word digits) in
    refused_by word (nat_lt (digits_value 10 word) (2 ^ 32)) refl digits (λ small. h (some_digits word digits, small))

-- whether a number is at most another, by the number that a word is

abbrev at_most : ℕ → Option ℕ → Bool
at_most most None = false
at_most most (Some number) = nat_le number most

by_tests_law : (most value : ℕ) (a b : Bool) → at_most most (if a && b then Some value else None) ≡ (a && (b && nat_le value most))
by_tests_law most value true true = refl
by_tests_law most value true false = refl
by_tests_law most value false b = refl

pub number_at_most : (most : ℕ) (word : List ℕ) (number : ℕ) → Some number ≡ number_in word → nat_le number most ≡ is_number most word
number_at_most most word number is =
    ap (at_most most) is ∙ by_tests_law most (digits_value 10 word) (is_numeral word) (nat_lt (digits_value 10 word) (2 ^ 32))

pub number_missing : (most : ℕ) (word : List ℕ) → None ≡ number_in word → false ≡ is_number most word
number_missing most word is =
    ap (at_most most) is ∙ by_tests_law most (digits_value 10 word) (is_numeral word) (nat_lt (digits_value 10 word) (2 ^ 32))
