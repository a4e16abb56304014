-- the function that reads a text and the grammar as a relation say the same
use Rattle.std.proofs.Common.{◌≡◌, ℕ, suc, ◌+◌, ◌<◌, ◌≤◌, ◌↔◌, inl, inr, Bool, true, false, eqb, cond, ◌&&◌, List, [], ◌∷◌, ◌++◌, length, get_or, take, drop, Option, Some, None, sym, ◌∙◌, ap, subst, refl, arith, append_assoc, length-append}
use Rattle.std.specs.Prelude.{option_map, option_and_then}
use Rattle.std.specs.Char.{digit_value, is_digit}
use Rattle.std.specs.List.{list_all, slice_split, join_with_byte, AllZip, All}
use Rattle.std.specs.Str.Parse.{digits_value, AllDigits}
use Rattle.std.proofs.lemmas.List.{append-nil}
use Rattle.std.proofs.lemmas.List.Elements.{All-nil, All-cons}
use Rattle.std.proofs.lemmas.List.Splits.{slice_split_none, slice_split_at, join_with_byte-slice_split}
use Rattle.std.proofs.lemmas.Option.{same_Some, none-some}
use Rattle.std.proofs.lemmas.Bool.{and_parts, and_from, and_left, and_right, ltb-true, lt-ltb, leb-true, le-leb, eqb-true, ne_eqb, cond-true, cond-false}
use Rattle.v6_addr.specs.Text.{number_of_text, group_of_text, groups_of_texts, groups_of_text, full_address, shortened_address, gap_of, address_of_parts, address_of_text}
use Rattle.v6_addr.specs.AddressGrammar.{IsGroupText, IsGroupsText, IsFullText, IsShortenedText, IsAddressText}
use Rattle.v6_addr.proofs.AddressReading.{groups_of_some_text}
use Rattle.v6_addr.proofs.GroupSums.{full_reads, shortened_parts}

-- ---- cases of options

pub some_cond : {A : Type 0} (b : Bool) (o : Option A) (x : A) → cond b o None ≡ Some x → (b ≡ true) × (o ≡ Some x)
some_cond true o x e = (refl, e)
some_cond false o x e = absurd (none-some x e)

pub some_then : {A B : Type 0} (f : A → Option B) (o : Option A) (y : B) → option_and_then f o ≡ Some y
    → (x : A) × (o ≡ Some x) × (f x ≡ Some y)
some_then f None y e = absurd (none-some y e)
some_then f (Some x) y e = (x, refl, e)

some_map : {A B : Type 0} (f : A → B) (o : Option A) (y : B) → option_map f o ≡ Some y → (x : A) × (o ≡ Some x) × (f x ≡ y)
some_map f None y e = absurd (none-some y e)
some_map f (Some x) y e = (x, refl, same_Some (f x) y e)

-- ---- a group

digits_from_test : (radix : ℕ) (text : List ℕ) → list_all (λ c. is_digit c radix) text ≡ true → AllDigits radix text
digits_from_test radix [] h = tt
digits_from_test radix (c ∷ cs) h =
    let parts = and_parts (is_digit c radix) (list_all (λ d. is_digit d radix) cs) h in
    (ltb-true _ _ parts.0, digits_from_test radix cs parts.1)

test_from_digits : (radix : ℕ) (text : List ℕ) → AllDigits radix text → list_all (λ c. is_digit c radix) text ≡ true
test_from_digits radix [] h = refl
test_from_digits radix (c ∷ cs) h = and_from _ _ (lt-ltb _ _ h.0) (test_from_digits radix cs h.1)

pub number_is : (radix : ℕ) (text : List ℕ) (n : ℕ) → number_of_text radix text ≡ Some n
    → AllDigits radix text × (n ≡ digits_value radix text)
unfolding number_of_text
number_is radix text n e =
    let parts = some_cond _ _ n e in
    (digits_from_test radix text parts.0, sym (same_Some _ _ parts.1))

pub number_from : (radix : ℕ) (text : List ℕ) → AllDigits radix text → number_of_text radix text ≡ Some (digits_value radix text)
unfolding number_of_text
number_from radix text digits = cond-true _ _ _ (test_from_digits radix text digits)

group_is : (text : List ℕ) (g : ℕ) → group_of_text text ≡ Some g → IsGroupText text g
unfolding group_of_text
group_is text g e =
    let outer = some_cond _ _ g e in
    let lengths = and_parts _ _ outer.0 in
    let number = number_is 16 text g outer.1 in
    (leb-true 1 _ lengths.0, leb-true _ 4 lengths.1, number.0, number.1)

group_from : (text : List ℕ) (g : ℕ) → IsGroupText text g → group_of_text text ≡ Some g
unfolding group_of_text
group_from text g h =
    cond-true _ _ _ (and_from _ _ (le-leb 1 (length text) h.0) (le-leb (length text) 4 h.1))
    ∙ number_from 16 text h.2 ∙ ap Some (sym h.3)

-- ---- groups

texts_are : (texts : List (List ℕ)) (groups : List ℕ) → groups_of_texts texts ≡ Some groups → AllZip IsGroupText texts groups
unfolding groups_of_texts
texts_are [] [] e = tt
texts_are [] (g ∷ gs) e = cc
texts_are (t ∷ ts) groups e =
    let one = some_then _ (group_of_text t) groups e in
    let more = some_map _ (groups_of_texts ts) groups one.2 in
    let P : List ℕ → Type 0 = AllZip IsGroupText (t ∷ ts) in
    subst P more.2 (group_is t one.0 one.1, texts_are ts more.0 more.1)

texts_from : (texts : List (List ℕ)) (groups : List ℕ) → AllZip IsGroupText texts groups → groups_of_texts texts ≡ Some groups
unfolding groups_of_texts
texts_from [] [] h = refl
texts_from [] (g ∷ gs) h = absurd h
texts_from (t ∷ ts) [] h = absurd h
texts_from (t ∷ ts) (g ∷ gs) h =
    ap (λ o. option_and_then (λ n. option_map (λ ns. n ∷ ns) (groups_of_texts ts)) o) (group_from t g h.0)
    ∙ ap (λ o. option_map (λ ns. g ∷ ns) o) (texts_from ts gs h.1)

groups_are : (text groups : List ℕ) → groups_of_text text ≡ Some groups → IsGroupsText text groups
unfolding groups_of_text
groups_are [] groups e =
    let P : List ℕ → Type 0 = AllZip IsGroupText [] in
    record { texts = []; joined = refl; each = subst P (same_Some [] groups e) tt }
groups_are (c ∷ cs) groups e = record {
  texts = slice_split (λ b. eqb b 58) (c ∷ cs);
  joined = sym (join_with_byte-slice_split 58 (c ∷ cs));
  each = texts_are (slice_split (λ b. eqb b 58) (c ∷ cs)) groups e;
}

-- a digit is no colon
digit_no_colon : (c : ℕ) → digit_value c < 16 → eqb c 58 ≡ false
digit_no_colon c digit = ne_eqb c 58 (λ e. let P : ℕ → Type 0 = λ n. digit_value n < 16 in absurd (omega (arith, subst P e digit)))

no_colons : (text : List ℕ) → AllDigits 16 text → All (λ c. eqb c 58 ≡ false) text
no_colons [] h = All-nil (λ c. eqb c 58 ≡ false)
no_colons (c ∷ cs) h = All-cons (λ d. eqb d 58 ≡ false) c cs (digit_no_colon c h.0) (no_colons cs h.1)

-- joined groups are parted again
split_joined : (text : List ℕ) (texts : List (List ℕ)) (g : ℕ) (groups : List ℕ) → AllZip IsGroupText (text ∷ texts) (g ∷ groups)
    → slice_split (λ b. eqb b 58) (join_with_byte 58 (text ∷ texts)) ≡ text ∷ texts
split_joined t [] g gs h = slice_split_none (λ b. eqb b 58) t (no_colons t h.0.2)
split_joined t (u ∷ us) g [] h = absurd h.1
split_joined t (u ∷ us) g (k ∷ ks) h =
    slice_split_at (λ b. eqb b 58) t 58 (join_with_byte 58 (u ∷ us)) (no_colons t h.0.2) refl
    ∙ ap (λ ts. t ∷ ts) (split_joined u us k ks h.1)

joined_some : (text : List ℕ) (texts : List (List ℕ)) → 1 ≤ length text → eqb (length (join_with_byte 58 (text ∷ texts))) 0 ≡ false
joined_some t [] some = ne_eqb _ _ (λ e. absurd (omega arith))
joined_some t (u ∷ us) some = ne_eqb _ _ (λ e. absurd (omega (arith, length-append t (58 ∷ join_with_byte 58 (u ∷ us)))))

joined_reads : (texts : List (List ℕ)) (groups : List ℕ) → AllZip IsGroupText texts groups
    → groups_of_text (join_with_byte 58 texts) ≡ Some groups
unfolding groups_of_text
joined_reads [] [] h = refl
joined_reads [] (g ∷ gs) h = absurd h
joined_reads (t ∷ ts) [] h = absurd h
joined_reads (t ∷ ts) (g ∷ gs) h =
    groups_of_some_text (join_with_byte 58 (t ∷ ts)) (joined_some t ts h.0.0)
    ∙ ap groups_of_texts (split_joined t ts g gs h) ∙ texts_from (t ∷ ts) (g ∷ gs) h

groups_from : (text groups : List ℕ) → IsGroupsText text groups → groups_of_text text ≡ Some groups
groups_from text groups h = ap groups_of_text h.joined ∙ joined_reads h.texts groups h.each

-- ---- the first `::`

behind_nothing : (o : Option ℕ) → o ≡ option_map (λ k. 0 + k) o
behind_nothing None = refl
behind_nothing (Some k) = let sum : k ≡ 0 + k = omega arith in ap Some sum

behind_one : (n : ℕ) (o : Option ℕ) → option_map suc (option_map (λ k. n + k) o) ≡ option_map (λ k. suc n + k) o
behind_one n None = refl
behind_one n (Some k) = let sum : suc (n + k) ≡ suc n + k = omega arith in ap Some sum

behind_both : (n m all : ℕ) (o : Option ℕ) → all ≡ n + suc m
    → option_map (λ k. n + k) (option_map suc (option_map (λ k. m + k) o)) ≡ option_map (λ k. all + k) o
behind_both n m all None e = refl
behind_both n m all (Some k) e = let sum : n + suc (m + k) ≡ all + k = omega arith in ap Some sum

gap_behind_digits : (text more : List ℕ) → AllDigits 16 text → gap_of (text ++ more) ≡ option_map (λ k. length text + k) (gap_of more)
unfolding gap_of
gap_behind_digits [] more h = behind_nothing (gap_of more)
gap_behind_digits (c ∷ cs) more h =
    cond-false _ (Some 0) (option_map suc (gap_of (cs ++ more))) (and_left _ _ (digit_no_colon c h.0))
    ∙ ap (option_map suc) (gap_behind_digits cs more h.1) ∙ behind_one (length cs) (gap_of more)

gap_behind_colon : (c : ℕ) (more : List ℕ) → eqb c 58 ≡ false → gap_of (58 ∷ c ∷ more) ≡ option_map suc (gap_of (c ∷ more))
unfolding gap_of
gap_behind_colon c more other = cond-false _ (Some 0) (option_map suc (gap_of (c ∷ more))) (and_right (eqb 58 58) _ other)

gap_behind_joined : (text : List ℕ) (texts : List (List ℕ)) (g : ℕ) (groups more : List ℕ) → AllZip IsGroupText (text ∷ texts) (g ∷ groups)
    → gap_of (join_with_byte 58 (text ∷ texts) ++ more) ≡ option_map (λ k. length (join_with_byte 58 (text ∷ texts)) + k) (gap_of more)
gap_behind_joined t [] g gs more h = gap_behind_digits t more h.0.2
gap_behind_joined t (u ∷ us) g [] more h = absurd h.1
gap_behind_joined t (u ∷ us) g (k ∷ ks) more h =
    let rest = join_with_byte 58 (u ∷ us) in
    ap gap_of (append_assoc t (58 ∷ rest) more)
    ∙ gap_behind_digits t (58 ∷ (rest ++ more)) h.0.2
    ∙ ap (option_map (λ n. length t + n)) (colon_before u us k ks more h.1 ∙ ap (option_map suc) (gap_behind_joined u us k ks more h.1))
    ∙ behind_both (length t) (length rest) (length (t ++ (58 ∷ rest))) (gap_of more) (length-append t (58 ∷ rest))
  where
    colon_before : (u : List ℕ) (us : List (List ℕ)) (k : ℕ) (ks more : List ℕ) → AllZip IsGroupText (u ∷ us) (k ∷ ks)
        → gap_of (58 ∷ (join_with_byte 58 (u ∷ us) ++ more)) ≡ option_map suc (gap_of (join_with_byte 58 (u ∷ us) ++ more))
    colon_before [] us k ks more h = absurd (omega (arith, h.0.0))
    colon_before (c ∷ cs) [] k ks more h = gap_behind_colon c _ (digit_no_colon c h.0.2.0)
    colon_before (c ∷ cs) (v ∷ vs) k ks more h = gap_behind_colon c _ (digit_no_colon c h.0.2.0)

gap_behind_texts : (texts : List (List ℕ)) (groups more : List ℕ) → AllZip IsGroupText texts groups
    → gap_of (join_with_byte 58 texts ++ more) ≡ option_map (λ k. length (join_with_byte 58 texts) + k) (gap_of more)
gap_behind_texts [] groups more h = behind_nothing (gap_of more)
gap_behind_texts (t ∷ ts) [] more h = absurd h
gap_behind_texts (t ∷ ts) (g ∷ gs) more h = gap_behind_joined t ts g gs more h

gap_behind_groups : (text groups more : List ℕ) → IsGroupsText text groups
    → gap_of (text ++ more) ≡ option_map (λ k. length text + k) (gap_of more)
gap_behind_groups text groups more h =
    let P : List ℕ → Type 0 = λ t. gap_of (t ++ more) ≡ option_map (λ k. length t + k) (gap_of more) in
    subst P (sym h.joined) (gap_behind_texts h.texts groups more h.each)

-- the two parts of a text round its first `::`
gap_parts : (text : List ℕ) (gap : ℕ) → gap_of text ≡ Some gap → text ≡ take gap text ++ (58 ∷ 58 ∷ drop (gap + 2) text)
unfolding gap_of
gap_parts [] gap e = absurd (none-some gap e)
gap_parts (c ∷ cs) gap e = by_test c cs gap ((eqb c 58) && (eqb (get_or cs 0 0) 58)) refl e (gap_parts cs)
  where
    here : (c : ℕ) (cs : List ℕ) (gap : ℕ) → 0 ≡ gap → c ≡ 58 → get_or cs 0 0 ≡ 58
        → c ∷ cs ≡ take gap (c ∷ cs) ++ (58 ∷ 58 ∷ drop (gap + 2) (c ∷ cs))
    here c [] gap is_gap first second = absurd (omega arith)
    here c (d ∷ ds) gap is_gap first second =
        let P : ℕ → Type 0 = λ n. c ∷ d ∷ ds ≡ take n (c ∷ d ∷ ds) ++ (58 ∷ 58 ∷ drop (n + 2) (c ∷ d ∷ ds)) in
        subst P is_gap (ap (λ n. n ∷ d ∷ ds) first ∙ ap (λ n. 58 ∷ n ∷ ds) second)

    behind : (c : ℕ) (cs : List ℕ) (gap k : ℕ) → suc k ≡ gap → cs ≡ take k cs ++ (58 ∷ 58 ∷ drop (k + 2) cs)
        → c ∷ cs ≡ take gap (c ∷ cs) ++ (58 ∷ 58 ∷ drop (gap + 2) (c ∷ cs))
    behind c cs gap k is_gap rest =
        let sum : suc k + 2 ≡ suc (k + 2) = omega arith in
        let P : ℕ → Type 0 = λ n. c ∷ cs ≡ take n (c ∷ cs) ++ (58 ∷ 58 ∷ drop (n + 2) (c ∷ cs)) in
        subst P is_gap (ap (λ t. c ∷ t) rest ∙ ap (λ n. c ∷ (take k cs ++ (58 ∷ 58 ∷ drop n (c ∷ cs)))) (sym sum))

    by_test : (c : ℕ) (cs : List ℕ) (gap : ℕ) (b : Bool) → ((eqb c 58) && (eqb (get_or cs 0 0) 58)) ≡ b
        → cond b (Some 0) (option_map suc (gap_of cs)) ≡ Some gap
        → ((k : ℕ) → gap_of cs ≡ Some k → cs ≡ take k cs ++ (58 ∷ 58 ∷ drop (k + 2) cs))
        → c ∷ cs ≡ take gap (c ∷ cs) ++ (58 ∷ 58 ∷ drop (gap + 2) (c ∷ cs))
    by_test c cs gap true test e more =
        let both = and_parts _ _ test in
        here c cs gap (same_Some 0 gap e) (eqb-true _ _ both.0) (eqb-true _ _ both.1)
    by_test c cs gap false test e more =
        let rest = some_map suc (gap_of cs) gap e in
        behind c cs gap rest.0 rest.2 (more rest.0 rest.1)

-- ---- the whole text

parts_are : (text : List ℕ) (a : ℕ) (gap : Option ℕ) → gap_of text ≡ gap → address_of_parts text gap ≡ Some a → IsAddressText text a
unfolding address_of_parts full_address shortened_address
parts_are text a None place e =
    let read = some_then full_address (groups_of_text text) a e in
    let whole = some_cond _ _ a read.2 in
    inl (record {
      groups = read.0;
      written = groups_are text read.0 read.1;
      eight = eqb-true _ _ whole.0;
      value = sym (same_Some _ a whole.1);
    })
parts_are text a (Some gap) place e =
    let left = some_then _ (groups_of_text (take gap text)) a e in
    let right = some_then (shortened_address left.0) (groups_of_text (drop (gap + 2) text)) a left.2 in
    let whole = some_cond _ _ a right.2 in
    inr (record {
      left_text = take gap text;
      right_text = drop (gap + 2) text;
      left = left.0;
      right = right.0;
      parts = gap_parts text gap place;
      left_written = groups_are _ _ left.1;
      right_written = groups_are _ _ right.1;
      some_zeros = (let below = ltb-true (length left.0 + length right.0) 8 whole.0 in omega arith);
      value = sym (same_Some _ a whole.1);
    })

no_gap_behind : (n : ℕ) → option_map (λ k. n + k) (gap_of []) ≡ None
unfolding gap_of
no_gap_behind n = refl

full_from : (text : List ℕ) (a : ℕ) → IsFullText text a → address_of_text text ≡ Some a
unfolding address_of_text
full_from text a h =
    let none : gap_of text ≡ None = ap gap_of (sym (append-nil text)) ∙ gap_behind_groups text h.groups [] h.written
    ∙ no_gap_behind (length text) in
    ap (address_of_parts text) none ∙ sym (full_reads text h.groups (length h.groups) a
    (groups_from text h.groups h.written) refl h.eight h.value)

take_front : (left right : List ℕ) → left ≡ take (length left) (left ++ right)
take_front [] right = refl
take_front (c ∷ cs) right = ap (λ t. c ∷ t) (take_front cs right)

drop_back : (left right : List ℕ) (c d : ℕ) → right ≡ drop (length left + 2) (left ++ (c ∷ d ∷ right))
drop_back [] right c d = refl
drop_back (x ∷ xs) right c d =
    let sum : suc (length xs) + 2 ≡ suc (length xs + 2) = omega arith in
    drop_back xs right c d ∙ ap (λ n. drop n (x ∷ (xs ++ (c ∷ d ∷ right)))) (sym sum)

gap_here : (n : ℕ) (more : List ℕ) → option_map (λ k. n + k) (gap_of (58 ∷ 58 ∷ more)) ≡ Some n
unfolding gap_of
gap_here n more = let sum : n + 0 ≡ n = omega arith in ap Some sum

shortened_from : (text : List ℕ) (a : ℕ) → IsShortenedText text a → address_of_text text ≡ Some a
unfolding address_of_text shortened_address
shortened_from text a h =
    let whole = h.left_text ++ (58 ∷ 58 ∷ h.right_text) in
    let gap : gap_of whole ≡ Some (length h.left_text) =
    gap_behind_groups h.left_text h.left (58 ∷ 58 ∷ h.right_text) h.left_written ∙ gap_here (length h.left_text) h.right_text in
    let read : address_of_text whole ≡ shortened_address h.left h.right =
    ap (address_of_parts whole) gap
    ∙ shortened_parts whole h.left_text h.right_text h.left h.right (length h.left_text) (take_front h.left_text (58 ∷ 58 ∷ h.right_text))
    (drop_back h.left_text h.right_text 58 58)
    (groups_from _ _ h.left_written) (groups_from _ _ h.right_written) in
    ap address_of_text h.parts ∙ read ∙ cond-true _ _ _ (lt-ltb (length h.left + length h.right) 8 (omega (arith, h.some_zeros)))
    ∙ ap Some (sym h.value)

pub address_text_is : (text : List ℕ) (a : ℕ) → (address_of_text text ≡ Some a) ↔ IsAddressText text a
unfolding address_of_text
address_text_is text a = (
  λ e. parts_are text a (gap_of text) refl e,
  λ h. elim h [ inl full ↦ full_from text a full | inr shortened ↦ shortened_from text a shortened ],
)
