-- groups of 16 bits and the numbers that they make
use Rattle.std.proofs.Common.{◌≡◌, ℕ, zero, suc, ◌+◌, ◌-◌, ◌*◌, ◌^◌, ◌<◌, ◌≤◌, List, [], ◌∷◌, ◌++◌, length, get_or, take, drop, fold, replicate, Option, Some, None, sym, ◌∙◌, ap, subst, refl, arith, lit<, add-zero}
use Rattle.std.proofs.lemmas.List.Sums.{fold_more}
use Rattle.std.proofs.lemmas.Nat.{mul-add-lt, pow-add}
use Rattle.std.proofs.Math.Nat.{pow-le-pow_right, mul_assoc}
use Rattle.std.proofs.lemmas.List.{length-replicate}
use Rattle.std.specs.Prelude.{option_and_then, IfSome}
use Rattle.std.proofs.lemmas.Grind.{fold-append}
use Rattle.std.proofs.lemmas.Bool.{cond-true, cond-false, eq-eqb, ne_eqb, lt-ltb, le-ltb}
use Rattle.v6_addr.specs.Text.{number_of_groups, full_address, shortened_address, address_of_parts, groups_of_text}

-- what is summed so far: the number of the first groups, with its bound
pub record SummedGroups (groups : List ℕ) (value count : ℕ) : Type 0 where
  pub same : value ≡ number_of_groups (take count groups)
  pub bound : value < 2 ^ (16 * count)

more_bound : (value group count : ℕ) → value < 2 ^ (16 * count) → group < 2 ^ 16 → value * 65536 + group < 2 ^ (16 * (count + 1))
more_bound value group count bound small =
    let sum : 16 * (count + 1) ≡ 16 + 16 * count = omega arith in
    rw sum (rw (pow-add 2 16 (16 * count)) (mul-add-lt value 65536 group (2 ^ (16 * count)) bound small))

pub more_fits : (value group count : ℕ) → value < 2 ^ (16 * count) → group < 2 ^ 16 → count < 8 → value * 65536 + group < 2 ^ 128
more_fits value group count bound small few =
    let room : 16 * (count + 1) ≤ 128 = omega arith in
    omega (arith, more_bound value group count bound small, pow-le-pow_right {n = 2} (lit< tt) room)

pub more_groups : (groups : List ℕ) (value group count : ℕ) → count < length groups → SummedGroups groups value count
    → group ≡ get_or groups count 0 → group < 2 ^ 16
    → SummedGroups groups (value * 65536 + group) (count + 1)
unfolding number_of_groups
more_groups groups value group count within so_far is_group small = record {
  same = ap (λ n. n * 65536 + group) so_far.same ∙ ap (λ n. number_of_groups (take count groups) * 65536 + n) is_group
      ∙ sym (fold_more (λ n g. n * 2 ^ 16 + g) 0 groups count 0 within);
  bound = more_bound value group count so_far.bound small;
}

pub no_groups_yet : (groups : List ℕ) → SummedGroups groups 0 0
unfolding number_of_groups
no_groups_yet groups = record { same = refl; bound = lit< tt }

-- ---- two lists of groups, one after the other

-- groups after a number
pub number_from : (n : ℕ) (groups : List ℕ)
    → fold (λ m g. m * 2 ^ 16 + g) n groups ≡ n * 2 ^ (16 * length groups) + fold (λ m g. m * 2 ^ 16 + g) 0 groups
number_from n [] = omega arith
number_from n (g ∷ groups) =
    let sum : 16 * suc (length groups) ≡ 16 + 16 * length groups = omega arith in
    let power : 2 ^ (16 * suc (length groups)) ≡ 65536 * 2 ^ (16 * length groups) = rw sum (pow-add 2 16 (16 * length groups)) in
    let left = number_from (n * 2 ^ 16 + g) groups in
    let right = number_from (0 * 2 ^ 16 + g) groups in
    rw power (omega (arith, left, right))

pub number_of_groups_append : (left right : List ℕ)
    → number_of_groups (left ++ right) ≡ number_of_groups left * 2 ^ (16 * length right) + number_of_groups right
unfolding number_of_groups
number_of_groups_append left right =
    fold-append (λ m g. m * 2 ^ 16 + g) 0 left right ∙ number_from (fold (λ m g. m * 2 ^ 16 + g) 0 left) right

pub number_of_groups_zeros : (n : ℕ) → number_of_groups (replicate n 0) ≡ 0
unfolding number_of_groups
number_of_groups_zeros zero = refl
number_of_groups_zeros (suc n) = number_of_groups_zeros n

-- groups, zeros and groups that are eight together
pub number_of_groups_around : (left right : List ℕ) → length left + length right ≤ 8
    → number_of_groups (left ++ replicate (8 - (length left + length right)) 0 ++ right) ≡ number_of_groups left * 2 ^
    (128 - 16 * length left) + number_of_groups right
number_of_groups_around left right few =
    let zeros = 8 - (length left + length right) in
    let sum : 16 * zeros + 16 * length right ≡ 128 - 16 * length left = omega arith in
    let high : number_of_groups (left ++ replicate zeros 0) ≡ number_of_groups left * 2 ^ (16 * zeros) =
    number_of_groups_append left (replicate zeros 0)
    ∙ ap (λ n. number_of_groups left * 2 ^ (16 * n) + number_of_groups (replicate zeros 0)) (length-replicate zeros 0)
    ∙ ap (λ n. number_of_groups left * 2 ^ (16 * zeros) + n) (number_of_groups_zeros zeros)
    ∙ add-zero (number_of_groups left * 2 ^ (16 * zeros)) in
    number_of_groups_append (left ++ replicate zeros 0) right
    ∙ ap (λ n. n * 2 ^ (16 * length right) + number_of_groups right) high
    ∙ ap (λ n. n + number_of_groups right)
    (mul_assoc (number_of_groups left) (2 ^ (16 * zeros)) (2 ^ (16 * length right))
    ∙ ap (λ n. number_of_groups left * n) (sym (pow-add 2 (16 * zeros) (16 * length right)) ∙ ap (λ n. 2 ^ n) sum))

-- the code's sum fits
pub around_fits : (high low left right : ℕ) → high < 2 ^ (16 * left) → low < 2 ^ (16 * right) → left + right ≤ 8
    → (high * 2 ^ (128 - 16 * left) < 2 ^ 128) × (high * 2 ^ (128 - 16 * left) + low < 2 ^ 128)
around_fits high low left right high_fits low_fits few =
    let behind = 128 - 16 * left in
    let room : 16 * right ≤ behind = omega arith in
    let sum : behind + 16 * left ≡ 128 = omega arith in
    let low_bound : low < 2 ^ behind = omega (arith, low_fits, pow-le-pow_right {n = 2} (lit< tt) room) in
    let bound = mul-add-lt high (2 ^ behind) low (2 ^ (16 * left)) high_fits low_bound in
    let P : ℕ → Type 0 = λ n. high * 2 ^ behind + low < n in
    let whole : high * 2 ^ behind + low < 2 ^ 128 = subst P (sym (pow-add 2 behind (16 * left)) ∙ ap (λ n. 2 ^ n) sum) bound in
    (omega (arith, whole), whole)

-- ---- the address of a text, by its parts

-- more groups than an address has
abbrev pub TooMany : Option (List ℕ) → Type 0
TooMany groups = IfSome groups (λ gs. 8 < length gs)

refused : (o : Option (List ℕ)) → TooMany o → None ≡ option_and_then full_address o
unfolding full_address
refused None many = refl
refused (Some gs) many = sym (cond-false _ _ _ (ne_eqb (length gs) 8 (λ e. omega arith)))

pub full_refused : (text : List ℕ) → TooMany (groups_of_text text) → None ≡ address_of_parts text None
unfolding address_of_parts
full_refused text many = refused (groups_of_text text) many

pub full_other : (text groups : List ℕ) (n : ℕ) → groups_of_text text ≡ Some groups → n ≡ length groups → (n ≡ 8 → ⊥)
    → None ≡ address_of_parts text None
unfolding address_of_parts full_address
full_other text groups n read is_length other =
    sym (ap (option_and_then full_address) read ∙ cond-false _ _ _ (ne_eqb (length groups) 8 (λ e. other (is_length ∙ e))))

pub full_reads : (text groups : List ℕ) (n value : ℕ) → groups_of_text text ≡ Some groups → n ≡ length groups → n ≡ 8
    → value ≡ number_of_groups groups → Some value ≡ address_of_parts text None
unfolding address_of_parts full_address
full_reads text groups n value read is_length eight is_number =
    ap Some is_number ∙ sym (ap (option_and_then full_address) read ∙ cond-true _ _ _ (eq-eqb (length groups) 8 (sym is_length ∙ eight)))

-- what the two parts round `::` make
abbrev around : Option (List ℕ) → Option (List ℕ) → Option ℕ
around left right = option_and_then (λ gs. option_and_then (shortened_address gs) right) left

left_refused : (left right : Option (List ℕ)) → TooMany left → None ≡ around left right
unfolding shortened_address
left_refused None right many = refl
left_refused (Some ls) None many = refl
left_refused (Some ls) (Some rs) many = sym (cond-false _ _ _ (le-ltb (length ls + length rs) 8 (omega arith)))

right_refused : (left right : Option (List ℕ)) → TooMany right → None ≡ around left right
unfolding shortened_address
right_refused None right many = refl
right_refused (Some ls) None many = refl
right_refused (Some ls) (Some rs) many = sym (cond-false _ _ _ (le-ltb (length ls + length rs) 8 (omega arith)))

pub shortened_left_refused : (text left : List ℕ) (gap : ℕ) → left ≡ take gap text → TooMany (groups_of_text left)
    → None ≡ address_of_parts text (Some gap)
unfolding address_of_parts
shortened_left_refused text left gap is_left many =
    left_refused (groups_of_text (take gap text)) (groups_of_text (drop (gap + 2) text)) (let P : List ℕ
    → Type 0 = λ t. TooMany (groups_of_text t) in subst P is_left many)

pub shortened_right_refused : (text right : List ℕ) (gap : ℕ) → right ≡ drop (gap + 2) text → TooMany (groups_of_text right)
    → None ≡ address_of_parts text (Some gap)
unfolding address_of_parts
shortened_right_refused text right gap is_right many =
    right_refused (groups_of_text (take gap text)) (groups_of_text (drop (gap + 2) text)) (let P : List ℕ
    → Type 0 = λ t. TooMany (groups_of_text t) in subst P is_right many)

-- the address round `::`
pub shortened_parts : (text left right ls rs : List ℕ) (gap : ℕ) → left ≡ take gap text → right ≡ drop (gap + 2) text
    → groups_of_text left ≡ Some ls → groups_of_text right ≡ Some rs
    → address_of_parts text (Some gap) ≡ shortened_address ls rs
unfolding address_of_parts
shortened_parts text left right ls rs gap is_left is_right read_left read_right =
    ap (λ o. around o (groups_of_text (drop (gap + 2) text))) (ap groups_of_text (sym is_left) ∙ read_left)
    ∙ ap (λ o. around (Some ls) o) (ap groups_of_text (sym is_right) ∙ read_right)

pub shortened_too_many : (text left right ls rs : List ℕ) (gap : ℕ) → left ≡ take gap text → right ≡ drop (gap + 2) text
    → groups_of_text left ≡ Some ls → groups_of_text right ≡ Some rs
    → 7 < length ls + length rs → None ≡ address_of_parts text (Some gap)
unfolding shortened_address
shortened_too_many text left right ls rs gap is_left is_right read_left read_right many =
    sym (shortened_parts text left right ls rs gap is_left is_right read_left read_right
    ∙ cond-false _ _ _ (le-ltb (length ls + length rs) 8 (omega arith)))

pub shortened_reads : (text left right ls rs : List ℕ) (gap value : ℕ) → left ≡ take gap text → right ≡ drop (gap + 2) text
    → groups_of_text left ≡ Some ls → groups_of_text right ≡ Some rs
    → length ls + length rs ≤ 7 → value ≡ number_of_groups ls * 2 ^ (128 - 16 * length ls) + number_of_groups rs
    → Some value ≡ address_of_parts text (Some gap)
unfolding shortened_address
shortened_reads text left right ls rs gap value is_left is_right read_left read_right few is_value =
    ap Some (is_value ∙ sym (number_of_groups_around ls rs (omega arith)))
    ∙ sym (shortened_parts text left right ls rs gap is_left is_right read_left read_right
    ∙ cond-true _ _ _ (lt-ltb (length ls + length rs) 8 (omega arith)))
