-- what is written is read back
use Rattle.std.proofs.Common.{◌≡◌, ℕ, zero, suc, ◌+◌, ◌-◌, ◌*◌, ◌/◌, ◌%◌, ◌^◌, ◌<◌, ◌≤◌, inl, inr, Bool, true, false, leb, cond, List, [], ◌∷◌, ◌++◌, length, take, drop, replicate, map, fold, Some, sym, ◌∙◌, ap, subst, refl, arith, lit<, lit≤, length-drop, length-append, zero-add}
use Rattle.std.specs.Char.{digit_char}
use Rattle.std.specs.List.{AllZip, All, AllByRecursion}
use Rattle.std.specs.Str.Parse.{digits_value, digits_value_after, AllDigits}
use Rattle.std.specs.Int.Digits.{number_from_digits_after}
use Rattle.std.proofs.lemmas.Bool.{cond-true, cond-false, lt-ltb, le-ltb, leb-true, cases_lt}
use Rattle.std.proofs.lemmas.List.{length-take-le}
use Rattle.std.proofs.lemmas.List.Elements.{All-head, All-tail, All-take, All-drop, All-from_recursion}
use Rattle.std.proofs.lemmas.Nat.{shr_split, shr-shr, mod_below}
use Rattle.std.proofs.lemmas.Str.{digit_value-digit_char}
use Rattle.std.proofs.Math.Pow.{shr_mod}
use Rattle.std.proofs.Math.Nat.{div-one}
use Rattle.v6_addr.specs.Address.{PrefixValue, field_of}
use Rattle.v6_addr.specs.AddressTerms.{IsPrefix}
use Rattle.v6_addr.specs.Text.{Run, number_of_groups, groups_of, group_text, groups_text, longest_run, text_with_run, address_text, address_of_text, length_text, prefix_text, prefix_of_text}
use Rattle.v6_addr.specs.AddressGrammar.{IsGroupText, IsGroupsText, IsAddressText, IsZeroRun}
use Rattle.v6_addr.proofs.RunLaws.{run_without, front_without, longest_run_is}
use Rattle.v6_addr.proofs.GrammarLaws.{address_text_is}
use Rattle.v6_addr.proofs.PrefixGrammar.{prefix_text_is, length_text_1, length_text_2, length_text_3}

-- ---- a group

written_digits : (n : ℕ) (digits : List ℕ) → AllByRecursion (λ d. d < 16) digits
    → AllDigits 16 (map digit_char digits) × (number_from_digits_after 16 n digits ≡ digits_value_after 16 n (map digit_char digits))
written_digits n [] h = (tt, refl)
written_digits n (d ∷ ds) h =
    let value = digit_value-digit_char d (omega arith) in
    let P : ℕ → Type 0 = λ m. m < 16 in
    let more = written_digits (n * 16 + d) ds h.1 in
    ((subst P (sym value) h.0, more.0), more.1 ∙ ap (λ m. digits_value_after 16 (n * 16 + m) (map digit_char ds)) (sym value))

group_written : (g : ℕ) (digits text : List ℕ) → text ≡ map digit_char digits → AllByRecursion (λ d. d < 16) digits
    → (1 ≤ length text) × (length text ≤ 4)
    → g ≡ number_from_digits_after 16 0 digits → IsGroupText text g
group_written g digits text is_text below lengths is_number =
    let written = written_digits 0 digits below in
    let P : List ℕ → Type 0 = AllDigits 16 in
    (lengths.0, lengths.1, subst P (sym is_text) written.0, is_number ∙ written.1 ∙ ap (digits_value 16) (sym is_text))

group_text_1 : (g : ℕ) → g < 16 → group_text g ≡ digit_char g ∷ []
unfolding group_text
group_text_1 g below = cond-true _ _ _ (lt-ltb g 16 below)

group_text_2 : (g : ℕ) → 16 ≤ g → g < 256 → group_text g ≡ digit_char (g / 16) ∷ digit_char (g % 16) ∷ []
unfolding group_text
group_text_2 g above below = cond-false _ _ _ (le-ltb g 16 above) ∙ cond-true _ _ _ (lt-ltb g 256 below)

group_text_3 : (g : ℕ) → 256 ≤ g → g < 4096 → group_text g ≡ digit_char (g / 256) ∷ digit_char (g / 16 % 16) ∷ digit_char (g % 16) ∷ []
unfolding group_text
group_text_3 g above below = cond-false _ _ _ (le-ltb g 16 (omega arith)) ∙ cond-false _ _ _ (le-ltb g 256 above)
    ∙ cond-true _ _ _ (lt-ltb g 4096 below)

group_text_4 : (g : ℕ) → 4096 ≤ g → group_text g ≡ digit_char (g / 4096) ∷ digit_char (g / 256 % 16) ∷ digit_char (g / 16 % 16) ∷ digit_char
    (g % 16) ∷ []
unfolding group_text
group_text_4 g above = cond-false _ _ _ (le-ltb g 16 (omega arith)) ∙ cond-false _ _ _ (le-ltb g 256 (omega arith))
    ∙ cond-false _ _ _ (le-ltb g 4096 above)

group_1 : (g : ℕ) → g < 16 → IsGroupText (group_text g) g
group_1 g below =
    let P : List ℕ → Type 0 = λ t. IsGroupText t g in
    subst P (sym (group_text_1 g below)) (group_written g (g ∷ []) (digit_char g ∷ []) refl (below, tt) (lit≤ tt, lit≤ tt) (omega arith))

group_2 : (g : ℕ) → 16 ≤ g → g < 256 → IsGroupText (group_text g) g
group_2 g above below =
    let P : List ℕ → Type 0 = λ t. IsGroupText t g in
    subst P (sym (group_text_2 g above below))
    (group_written g (g / 16 ∷ g % 16 ∷ []) (digit_char (g / 16) ∷ digit_char (g % 16) ∷ []) refl (omega arith, (omega arith, tt))
    (lit≤ tt, lit≤ tt) (omega arith))

group_3 : (g : ℕ) → 256 ≤ g → g < 4096 → IsGroupText (group_text g) g
group_3 g above below =
    let P : List ℕ → Type 0 = λ t. IsGroupText t g in
    subst P (sym (group_text_3 g above below))
    (group_written g (g / 256 ∷ g / 16 % 16 ∷ g % 16 ∷ []) (digit_char (g / 256) ∷ digit_char (g / 16 % 16) ∷ digit_char (g % 16) ∷ []) refl
    (omega arith, (omega arith, (omega arith, tt)))
    (lit≤ tt, lit≤ tt) (omega arith))

group_4 : (g : ℕ) → 4096 ≤ g → g < 65536 → IsGroupText (group_text g) g
group_4 g above below =
    let P : List ℕ → Type 0 = λ t. IsGroupText t g in
    subst P (sym (group_text_4 g above))
    (group_written g (g / 4096 ∷ g / 256 % 16 ∷ g / 16 % 16 ∷ g % 16 ∷ [])
    (digit_char (g / 4096) ∷ digit_char (g / 256 % 16) ∷ digit_char (g / 16 % 16) ∷ digit_char (g % 16) ∷ []) refl
    (omega arith, (omega arith, (omega arith, (omega arith, tt)))) (lit≤ tt, lit≤ tt) (omega arith))

group_text_is : (g : ℕ) → g < 65536 → IsGroupText (group_text g) g
group_text_is g below =
    elim (cases_lt g 16) [
      | inl small ↦ group_1 g small
      | inr above16 ↦ elim (cases_lt g 256) [
        | inl small ↦ group_2 g above16 small
        | inr above256 ↦ elim (cases_lt g 4096) [ inl small ↦ group_3 g above256 small | inr above4096 ↦ group_4 g above4096 below ]
      ]
    ]

-- ---- groups

each_text : (groups : List ℕ) → All (λ g. g < 65536) groups → AllZip IsGroupText (map group_text groups) groups
each_text [] below = tt
each_text (g ∷ gs) below =
    (group_text_is g (All-head (λ n. n < 65536) g gs below), each_text gs (All-tail (λ n. n < 65536) g gs below))

groups_text_is : (groups : List ℕ) → All (λ g. g < 65536) groups → IsGroupsText (groups_text groups) groups
unfolding groups_text
groups_text_is groups below = record { texts = map group_text groups; joined = refl; each = each_text groups below }

field_below : (a at : ℕ) → field_of a at 16 < 65536
unfolding field_of
field_below a at = mod_below (a / 2 ^ (128 - at - 16)) 65536 (lit< tt)

groups_below : (a : ℕ) → All (λ g. g < 65536) (groups_of a)
unfolding groups_of
groups_below a = All-from_recursion (λ g. g < 65536) (groups_of a) (
  field_below a 0,
  (
    field_below a 16,
    (
      field_below a 32,
      (field_below a 48, (field_below a 64, (field_below a 80, (field_below a 96, (field_below a 112, tt))))),
    ),
  ),
)

groups_of_length : (a : ℕ) → length (groups_of a) ≡ 8
unfolding groups_of
groups_of_length a = refl

pub more_bits : (a k : ℕ) → a / 2 ^ (k + 16) * 2 ^ 16 + a / 2 ^ k % 2 ^ 16 ≡ a / 2 ^ k
more_bits a k = ap (λ n. n * 2 ^ 16 + a / 2 ^ k % 2 ^ 16) (sym (shr-shr a k 16)) ∙ shr_split (a / 2 ^ k) 16

number_of_groups_groups_of : (a : ℕ) → a < 2 ^ 128 → number_of_groups (groups_of a) ≡ a
unfolding number_of_groups groups_of field_of
number_of_groups_groups_of a below =
    let f : ℕ → ℕ → ℕ = λ n g. n * 2 ^ 16 + g in
    let g = λ (at : ℕ). a / 2 ^ (128 - at - 16) % 2 ^ 16 in
    let top : 0 * 2 ^ 16 + g 0 ≡ a / 2 ^ 112 = zero-add (g 0) ∙ shr_mod {n = a} 16 112 below in
    ap (λ n. fold f n (g 16 ∷ g 32 ∷ g 48 ∷ g 64 ∷ g 80 ∷ g 96 ∷ g 112 ∷ [])) top
    ∙ ap (λ n. fold f n (g 32 ∷ g 48 ∷ g 64 ∷ g 80 ∷ g 96 ∷ g 112 ∷ [])) (more_bits a 96)
    ∙ ap (λ n. fold f n (g 48 ∷ g 64 ∷ g 80 ∷ g 96 ∷ g 112 ∷ [])) (more_bits a 80)
    ∙ ap (λ n. fold f n (g 64 ∷ g 80 ∷ g 96 ∷ g 112 ∷ [])) (more_bits a 64)
    ∙ ap (λ n. fold f n (g 80 ∷ g 96 ∷ g 112 ∷ [])) (more_bits a 48)
    ∙ ap (λ n. fold f n (g 96 ∷ g 112 ∷ [])) (more_bits a 32)
    ∙ ap (λ n. fold f n (g 112 ∷ [])) (more_bits a 16)
    ∙ more_bits a 0 ∙ div-one a

-- ---- the run of zeros

front_list : (groups : List ℕ) (count : ℕ) → IsZeroRun groups 0 count → groups ≡ replicate count 0 ++ drop count groups
front_list groups zero run = refl
front_list [] (suc n) run = absurd (omega (arith, run.0))
front_list (g ∷ gs) (suc n) run =
    let here : g ≡ 0 = run.1 0 (omega arith) in
    ap (λ m. m ∷ gs) here ∙ ap (λ t. 0 ∷ t) (front_list gs n (front_without g gs n run))

-- the groups before a run, its zeros, and the groups after it
run_list : (groups : List ℕ) (start count : ℕ) → IsZeroRun groups start count
    → groups ≡ take start groups ++ replicate count 0 ++ drop (start + count) groups
run_list groups zero count run =
    let sum : count ≡ 0 + count = omega arith in
    front_list groups count run ∙ ap (λ n. replicate count 0 ++ drop n groups) sum
run_list [] (suc start) count run = absurd (omega (arith, run.0))
run_list (g ∷ gs) (suc start) count run =
    let sum : suc (start + count) ≡ suc start + count = omega arith in
    ap (λ t. g ∷ t) (run_list gs start count (run_without g gs start count run))
    ∙ ap (λ n. g ∷ (take start gs ++ replicate count 0 ++ drop n (g ∷ gs))) sum

-- ---- an address

written_short : (a : ℕ) (groups : List ℕ) (start count : ℕ) → length groups ≡ 8 → All (λ g. g < 65536) groups → a ≡ number_of_groups groups
    → IsZeroRun groups start count → 2 ≤ count
    → IsAddressText (groups_text (take start groups) ++ (58 ∷ 58 ∷ groups_text (drop (start + count) groups))) a
written_short a groups start count eight below value run long =
    let left = take start groups in
    let right = drop (start + count) groups in
    let left_length : length left ≡ start = length-take-le start groups (omega (arith, run.0)) in
    let right_length : length right ≡ length groups - (start + count) = length-drop (start + count) groups in
    let zeros : count ≡ 8 - (length left + length right) = omega (arith, run.0) in
    inr (record {
      left_text = groups_text left;
      right_text = groups_text right;
      left = left;
      right = right;
      parts = refl;
      left_written = groups_text_is left (All-take (λ g. g < 65536) start groups below);
      right_written = groups_text_is right (All-drop (λ g. g < 65536) (start + count) groups below);
      some_zeros = omega (arith, run.0);
      value = value ∙ ap number_of_groups (run_list groups start count run ∙ ap (λ n. left ++ replicate n 0 ++ right) zeros);
    })

written_full : (a : ℕ) (groups : List ℕ) → length groups ≡ 8 → All (λ g. g < 65536) groups → a ≡ number_of_groups groups
    → IsAddressText (groups_text groups) a
written_full a groups eight below value =
    inl (record { groups = groups; written = groups_text_is groups below; eight = eight; value = value })

written_by_test : (a : ℕ) (groups : List ℕ) (run : Run) (b : Bool) → leb 2 run.count ≡ b → length groups ≡ 8 → All (λ g. g < 65536) groups
    → a ≡ number_of_groups groups → IsZeroRun groups run.start run.count
    → IsAddressText (cond b (groups_text (take run.start groups) ++ (58 ∷ 58 ∷ groups_text (drop (run.start + run.count) groups)))
    (groups_text groups)) a
written_by_test a groups run true test eight below value zeros = written_short a groups run.start run.count eight below value zeros
    (leb-true 2 run.count test)
written_by_test a groups run false test eight below value zeros = written_full a groups eight below value

pub address_text_written : (a : ℕ) → a < 2 ^ 128 → IsAddressText (address_text a) a
unfolding address_text text_with_run
address_text_written a below =
    written_by_test a (groups_of a) (longest_run (groups_of a)) (leb 2 (longest_run (groups_of a)).count) refl (groups_of_length a)
    (groups_below a) (sym (number_of_groups_groups_of a below))
    (longest_run_is (groups_of a)).zeros

pub address_read_back : (a : ℕ) → a < 2 ^ 128 → address_of_text (address_text a) ≡ Some a
address_read_back a below = (address_text_is (address_text a) a).1 (address_text_written a below)

-- ---- lengths

group_text_length : (g : ℕ) → length (group_text g) ≤ 4
group_text_length g =
    elim (cases_lt g 16) [
      | inl small ↦ omega (arith, ap length (group_text_1 g small))
      | inr above16 ↦ elim (cases_lt g 256) [
        | inl small ↦ omega (arith, ap length (group_text_2 g above16 small))
        | inr above256 ↦ elim (cases_lt g 4096) [
          | inl small ↦ omega (arith, ap length (group_text_3 g above256 small))
          | inr above4096 ↦
              omega (arith, ap length (group_text_4 g above4096))
        ]
      ]
    ]

groups_text_length : (groups : List ℕ) → length (groups_text groups) ≤ 5 * length groups - 1
unfolding groups_text
groups_text_length [] = omega arith
groups_text_length (g ∷ []) = let one = group_text_length g in omega arith
groups_text_length (g ∷ h ∷ gs) =
    let more = groups_text_length (h ∷ gs) in
    omega (arith, group_text_length g, more, length-append (group_text g) (58 ∷ groups_text (h ∷ gs)))

short_length : (groups : List ℕ) (start count : ℕ) → length groups ≡ 8 → start + count ≤ 8 → 2 ≤ count
    → length (groups_text (take start groups) ++ (58 ∷ 58 ∷ groups_text (drop (start + count) groups))) ≤ 39
short_length groups start count eight within long =
    let left_length : length (take start groups) ≡ start = length-take-le start groups (omega arith) in
    let right_length : length (drop (start + count) groups) ≡ length groups - (start + count) = length-drop (start + count) groups in
    omega (
      arith,
      groups_text_length (take start groups),
      groups_text_length (drop (start + count) groups),
      length-append (groups_text (take start groups)) (58 ∷ 58 ∷ groups_text (drop (start + count) groups)),
    )

length_by_test : (groups : List ℕ) (run : Run) (b : Bool) → leb 2 run.count ≡ b → length groups ≡ 8 → run.start + run.count ≤ 8
    → length (cond b (groups_text (take run.start groups) ++ (58 ∷ 58 ∷ groups_text (drop (run.start + run.count) groups)))
    (groups_text groups)) ≤ 39
length_by_test groups run true test eight within = short_length groups run.start run.count eight within (leb-true 2 run.count test)
length_by_test groups run false test eight within = omega (arith, groups_text_length groups)

pub address_text_length : (a : ℕ) → length (address_text a) ≤ 39
unfolding address_text text_with_run
address_text_length a =
    length_by_test (groups_of a) (longest_run (groups_of a)) (leb 2 (longest_run (groups_of a)).count) refl (groups_of_length a)
    (omega (arith, (longest_run_is (groups_of a)).zeros.0, groups_of_length a))

-- ---- a prefix

pub prefix_read_back : (p : PrefixValue) → IsPrefix p → prefix_of_text (prefix_text p) ≡ Some p
unfolding prefix_text
prefix_read_back p is_prefix =
    (prefix_text_is (prefix_text p) p).1 (record {
      address_part = address_text p.value;
      parts = refl;
      address = address_text_written p.value is_prefix.1;
      is_prefix = is_prefix;
    })

length_text_length : (n : ℕ) → length (length_text n) ≤ 3
length_text_length n =
    elim (cases_lt n 10) [
      | inl small ↦ omega (arith, ap length (length_text_1 n small))
      | inr above10 ↦ elim (cases_lt n 100) [
        | inl small ↦ omega (arith, ap length (length_text_2 n above10 small))
        | inr above100 ↦ omega (arith, ap length (length_text_3 n above100))
      ]
    ]

pub prefix_text_length : (p : PrefixValue) → length (prefix_text p) ≤ 43
unfolding prefix_text
prefix_text_length p =
    omega (arith, length-append (address_text p.value) (47 ∷ length_text p.len), address_text_length p.value, length_text_length p.len)
