-- what the readers of texts stand on
use Rattle.std.proofs.Common.{◌≡◌, ℕ, zero, suc, ◌+◌, ◌-◌, ◌*◌, ◌%◌, ◌^◌, ◌↔◌, ◌<◌, ◌≤◌, Bool, true, false, eqb, ltb, cond, ◌&&◌, List, [], ◌∷◌, ◌++◌, length, get_or, take, drop, map, Option, Some, None, sym, ◌∙◌, ap, subst, refl, arith, lit<, drop-cons, add-one, length-drop}
use Rattle.std.specs.Prelude.{option_map, option_and_then, IfSome, IsSome, position}
use Rattle.std.specs.Char.{digit_value, is_digit}
use Rattle.std.specs.List.{list_all, slice_split, position_or_len}
use Rattle.std.specs.Str.Parse.{digits_value}
use Rattle.std.proofs.lemmas.Bool.{lt-ltb, le-ltb, ltb-false, cond-true, cond-false, and_from, eq-eqb, ne_eqb, true≢false, false≢true, eqb-true}
use Rattle.std.proofs.lemmas.List.{take_all, drop_all, get_or-drop, map-append, length-map}
use Rattle.std.proofs.lemmas.Option.{MatchOption-at_some, IfSome_then, cond_some}
use Rattle.std.proofs.lemmas.List.Folds.{list_all_more, list_all_at}
use Rattle.std.proofs.lemmas.Grind.{pow_more}
use Rattle.std.proofs.lemmas.Int.Digits.{digits_value_more}
use Rattle.std.proofs.Math.Nat.{mul-le-mul_left, mul-le-mul_right, pow-le-pow_right}
use Rattle.v6_addr.specs.Text.{number_of_text, group_of_text, groups_of_texts, groups_of_text, gap_of, address_of_text, length_of_text, prefix_of_parts, prefix_of_text}
use Rattle.v6_addr.specs.Address.{PrefixValue}
use Rattle.v6_addr.specs.AddressTerms.{IsPrefix}

-- ---- numbers

-- what is read so far: the value of the first digits, with its bound
pub record ReadDigits (radix : ℕ) (text : List ℕ) (value count : ℕ) : Type 0 where
  pub bound : value < 16 ^ count
  pub digits : list_all (λ c. is_digit c radix) (take count text) ≡ true
  pub same : value ≡ digits_value radix (take count text)

-- one more digit: its bound
pub more_bound : (radix value count digit : ℕ) → radix ≤ 16 → value < 16 ^ count → digit < radix → value * radix + digit < 16 ^ (count + 1)
more_bound radix value count digit small bound below =
    rw (pow_more 16 count) (let wide = mul-le-mul_left value small in let more = mul-le-mul_right 16 bound in omega (arith, wide, more))

-- and it fits the code's type
pub more_fits : (radix value count digit : ℕ) → radix ≤ 16 → value < 16 ^ count → digit < radix → count < 4 → value * radix + digit < 2 ^ 32
more_fits radix value count digit small bound below short =
    let room : count + 1 ≤ 4 = omega arith in
    omega (arith, more_bound radix value count digit small bound below, pow-le-pow_right {n = 16} (lit< tt) room)

pub more_digits : (radix : ℕ) (text : List ℕ) (value count byte digit : ℕ) → radix ≤ 16 → count < length text
    → ReadDigits radix text value count → byte ≡ get_or text count 0
    → (digit_value byte < radix) × (digit ≡ digit_value byte) → ReadDigits radix text (value * radix + digit) (count + 1)
more_digits radix text value count byte digit small within read is_byte is_digit_value = record {
  bound = more_bound radix value count digit small read.bound (omega arith);
  digits = list_all_more (λ c. is_digit c radix) text count 0 within
      ∙ and_from _ _ read.digits (ap (λ c. is_digit c radix) (sym is_byte) ∙ lt-ltb _ _ is_digit_value.0);
  same = ap (λ n. n * radix + digit) read.same
      ∙ ap (λ n. digits_value radix (take count text) * radix + n) (is_digit_value.1 ∙ ap digit_value is_byte)
      ∙ sym (digits_value_more radix text count within);
}

-- a byte that is no digit ends it
pub number_stops : (radix : ℕ) (text : List ℕ) (count byte : ℕ) (r : Option ℕ) → count < length text → byte ≡ get_or text count 0
    → (digit_value byte < radix → ⊥) → r ≡ None → r ≡ number_of_text radix text
unfolding number_of_text
number_stops radix text count byte r within is_byte no_digit none =
    let fails : is_digit (get_or text count 0) radix ≡ false = ap (λ c. is_digit c radix) (sym is_byte)
    ∙ le-ltb _ _ (omega (arith, no_digit)) in
    rw (list_all_at (λ c. is_digit c radix) text count 0 within fails) none

-- all digits are read
pub number_ends : (radix : ℕ) (text : List ℕ) (value count : ℕ) → length text ≤ count → ReadDigits radix text value count
    → Some value ≡ number_of_text radix text
unfolding number_of_text
number_ends radix text value count end read =
    let whole = take_all count text end in
    let digits : list_all (λ c. is_digit c radix) text ≡ true = ap (list_all (λ c. is_digit c radix)) (sym whole) ∙ read.digits in
    rw digits (ap Some (read.same ∙ ap (digits_value radix) whole))

-- ---- the first `::`

gap_at : (text : List ℕ) (i : ℕ) → i < length text
    → gap_of (drop i text) ≡ cond (eqb (get_or text i 0) 58 && eqb (get_or text (i + 1) 0) 58) (Some 0)
    (option_map suc (gap_of (drop (i + 1) text)))
unfolding gap_of
gap_at text i within =
    let parts : drop i text ≡ get_or text i 0 ∷ drop (i + 1) text = rw add-one (drop-cons text i 0 within) in
    let sum : i + 1 + 0 ≡ i + 1 = omega arith in
    let head : get_or (drop (i + 1) text) 0 0 ≡ get_or text (i + 1) 0 = get_or-drop (i + 1) text 0 0 ∙ ap (λ n. get_or text n 0) sum in
    ap gap_of parts
    ∙ ap (λ n. cond (eqb (get_or text i 0) 58 && eqb n 58) (Some 0) (option_map suc (gap_of (drop (i + 1) text)))) head

-- no `::` begins before the place
abbrev pub NoGapBefore : List ℕ → ℕ → Type 0
NoGapBefore text i = gap_of text ≡ option_map (λ k. i + k) (gap_of (drop i text))

pub gap_found : (text : List ℕ) (i : ℕ) → 0 < i → i < length text → NoGapBefore text (i - 1) → get_or text (i - 1) 0 ≡ 58
    → get_or text i 0 ≡ 58
    → Some (i - 1) ≡ gap_of text
gap_found text i above within before first second =
    let j = i - 1 in
    let next : j + 1 ≡ i = omega arith in
    let after : get_or text (j + 1) 0 ≡ 58 = ap (λ n. get_or text n 0) next ∙ second in
    let both : (eqb (get_or text j 0) 58 && eqb (get_or text (j + 1) 0) 58) ≡ true = and_from _ _ (eq-eqb _ _ first) (eq-eqb _ _ after) in
    let here : gap_of (drop j text) ≡ Some 0 = gap_at text j (omega arith) ∙ cond-true _ (Some 0) _ both in
    let sum : j ≡ j + 0 = omega arith in
    ap Some sum ∙ sym (before ∙ ap (option_map (λ k. j + k)) here)

shifted : (i j : ℕ) (o : Option ℕ) → j + 1 ≡ i → option_map (λ k. j + k) (option_map suc o) ≡ option_map (λ k. i + k) o
shifted i j None e = refl
shifted i j (Some k) e = let sum : j + suc k ≡ i + k = omega arith in ap Some sum

pub gap_not_yet : (text : List ℕ) (i : ℕ) → 0 < i → i < length text → NoGapBefore text (i - 1)
    → (eqb (get_or text (i - 1) 0) 58 && eqb (get_or text i 0) 58) ≡ false → NoGapBefore text (i + 1 - 1)
gap_not_yet text i above within before miss =
    let j = i - 1 in
    let next : j + 1 ≡ i = omega arith in
    let same : i ≡ i + 1 - 1 = omega arith in
    let P : ℕ → Type 0 = λ n. (eqb (get_or text j 0) 58 && eqb (get_or text n 0) 58) ≡ false in
    let here : gap_of (drop j text) ≡ option_map suc (gap_of (drop (j + 1) text)) =
    gap_at text j (omega arith) ∙ cond-false _ _ _ (subst P (sym next) miss) in
    let Q : ℕ → Type 0 = NoGapBefore text in
    subst Q same (before ∙ ap (option_map (λ k. j + k)) (here ∙ ap (λ n. option_map suc (gap_of (drop n text))) next)
    ∙ shifted i j (gap_of (drop i text)) next)

none_of_one : (b : Bool) (o : Option ℕ) → cond (b && false) o None ≡ None
none_of_one true o = refl
none_of_one false o = refl

no_gap_in_one : (text : List ℕ) → length text ≤ 1 → gap_of text ≡ None
unfolding gap_of
no_gap_in_one [] short = refl
no_gap_in_one (c ∷ []) short = none_of_one (eqb c 58) (Some 0)
no_gap_in_one (c ∷ d ∷ cs) short = absurd (omega arith)

pub no_gap : (text : List ℕ) (i : ℕ) → 0 < i → length text ≤ i → NoGapBefore text (i - 1) → None ≡ gap_of text
no_gap text i above end before =
    sym (before ∙ ap (option_map (λ k. i - 1 + k)) (no_gap_in_one (drop (i - 1) text) (omega (arith, length-drop (i - 1) text))))

-- ---- groups

-- two parts of a list are both groups, or the whole is none
pub option_join : Option (List ℕ) → Option (List ℕ) → Option (List ℕ)
option_join None b = None
option_join (Some a) None = None
option_join (Some a) (Some b) = Some (a ++ b)

join_nothing : (b : Option (List ℕ)) → b ≡ option_join (Some []) b
unfolding option_join
join_nothing None = refl
join_nothing (Some b) = refl

join_more : (o : Option ℕ) (a b : Option (List ℕ))
    → option_and_then (λ g. option_map (λ gs. g ∷ gs) (option_join a b)) o ≡ option_join
    (option_and_then (λ g. option_map (λ gs. g ∷ gs) a) o) b
unfolding option_join
join_more None a b = refl
join_more (Some g) None b = refl
join_more (Some g) (Some a) None = refl
join_more (Some g) (Some a) (Some b) = refl

pub groups_append : (texts more : List (List ℕ))
    → groups_of_texts (texts ++ more) ≡ option_join (groups_of_texts texts) (groups_of_texts more)
unfolding groups_of_texts
groups_append [] more = join_nothing (groups_of_texts more)
groups_append (text ∷ texts) more =
    ap (λ o. option_and_then (λ g. option_map (λ gs. g ∷ gs) o) (group_of_text text)) (groups_append texts more)
    ∙ join_more (group_of_text text) (groups_of_texts texts) (groups_of_texts more)

-- one more text, which is a group
pub groups_push : (texts : List (List ℕ)) (groups : List ℕ) (text : List ℕ) (g : ℕ) → groups_of_texts texts ≡ Some groups
    → group_of_text text ≡ Some g
    → groups_of_texts (texts ++ text ∷ []) ≡ Some (groups ++ g ∷ [])
unfolding groups_of_texts option_join
groups_push texts groups text g all one =
    groups_append texts (text ∷ [])
    ∙ ap (λ o. option_join o (groups_of_texts (text ∷ []))) all
    ∙ ap (λ o. option_join (Some groups) (option_and_then (λ n. option_map (λ gs. n ∷ gs) (Some [])) o)) one

none_behind : (o : Option ℕ) → option_and_then (λ g. option_map (λ (gs : List ℕ). g ∷ gs) None) o ≡ None
none_behind None = refl
none_behind (Some g) = refl

-- a text that is no group ends it
pub groups_stop : (texts : List (List ℕ)) (i : ℕ) (text : List ℕ) → i < length texts → text ≡ get_or texts i text
    → group_of_text text ≡ None → groups_of_texts texts ≡ None
unfolding groups_of_texts
groups_stop [] i text within is_text none = absurd (omega arith)
groups_stop (t ∷ ts) zero text within is_text none =
    ap (λ o. option_and_then (λ g. option_map (λ gs. g ∷ gs) (groups_of_texts ts)) o) (ap group_of_text (sym is_text) ∙ none)
groups_stop (t ∷ ts) (suc i) text within is_text none =
    ap (λ o. option_and_then (λ g. option_map (λ gs. g ∷ gs) o) (group_of_text t)) (groups_stop ts i text (omega arith) is_text none)
    ∙ none_behind (group_of_text t)

longer : (o : Option ℕ) (a : Option (List ℕ)) (n : ℕ) → IfSome a (λ gs. length gs ≡ n)
    → IfSome (option_and_then (λ g. option_map (λ gs. g ∷ gs) a) o) (λ gs. length gs ≡ suc n)
longer None a n same = tt
longer (Some g) None n same = tt
longer (Some g) (Some gs) n same = ap suc same

-- as many groups as texts
pub groups_length : (texts : List (List ℕ)) → IfSome (groups_of_texts texts) (λ groups. length groups ≡ length texts)
unfolding groups_of_texts
groups_length [] = refl
groups_length (text ∷ texts) = longer (group_of_text text) (groups_of_texts texts) (length texts) (groups_length texts)

pub groups_of_some_text : (text : List ℕ) → eqb (length text) 0 ≡ false
    → groups_of_text text ≡ groups_of_texts (slice_split (λ b. eqb b 58) text)
unfolding groups_of_text
groups_of_some_text [] some = absurd (true≢false some)
groups_of_some_text (c ∷ cs) some = refl

pub groups_of_no_text : (text : List ℕ) → eqb (length text) 0 ≡ true → groups_of_text text ≡ Some []
unfolding groups_of_text
groups_of_no_text [] none = refl
groups_of_no_text (c ∷ cs) none = absurd (omega (arith, eqb-true _ _ none))

pub groups_read : (text : List ℕ) (texts : List (List ℕ)) (groups : List ℕ) → eqb (length text) 0 ≡ false
    → groups_of_texts texts ≡ Some groups
    → texts ≡ slice_split (λ b. eqb b 58) text → groups_of_text text ≡ Some groups
groups_read text texts groups some all whole = groups_of_some_text text some ∙ ap groups_of_texts (sym whole) ∙ all

pub groups_refused : (text piece : List ℕ) (i : ℕ) → eqb (length text) 0 ≡ false
    → (i < length (slice_split (λ b. eqb b 58) text)) × (piece ≡ get_or (slice_split (λ b. eqb b 58) text) i piece)
    → None ≡ group_of_text piece
    → IfSome (groups_of_text text) (λ groups. 8 < length groups)
groups_refused text piece i some here none =
    rw (groups_of_some_text text some, groups_stop (slice_split (λ b. eqb b 58) text) i piece here.0 here.1 (sym none)) tt

pub counted : {X : Type 0} (now : X → List ℕ) (xs : List X) (groups : List ℕ) → groups_of_texts (map now xs) ≡ Some groups
    → length groups ≡ length xs
counted now xs groups all =
    MatchOption-at_some (Unit {0}) (λ gs. length gs ≡ length (map now xs)) groups all (groups_length (map now xs)) ∙ length-map xs now

pub groups_too_many : (text : List ℕ) (i : ℕ) → eqb (length text) 0 ≡ false → i ≡ 8 → i < length (slice_split (λ b. eqb b 58) text)
    → IfSome (groups_of_text text) (λ groups. 8 < length groups)
groups_too_many text i some eight more =
    rw (groups_of_some_text text some)
    (IfSome_then (groups_of_texts (slice_split (λ b. eqb b 58) text)) (groups_length (slice_split (λ b. eqb b 58) text))
    (λ groups same. omega arith))

pub groups_more : {X : Type 0} (now : X → List ℕ) (xs : List X) (x : X) (groups after : List ℕ) (g : ℕ)
    → groups_of_texts (map now xs) ≡ Some groups
    → Some g ≡ group_of_text (now x) → after ≡ groups ++ g ∷ [] → groups_of_texts (map now (xs ++ x ∷ [])) ≡ Some after
groups_more now xs x groups after g all one is_after =
    ap groups_of_texts (map-append now xs (x ∷ [])) ∙ groups_push (map now xs) groups (now x) g all (sym one) ∙ ap Some (sym is_after)

-- ---- prefixes

-- the parts of a text round its first slash
prefix_at : (text front back : List ℕ) (slash : ℕ) → Some slash ≡ position (λ b. eqb b 47) text → front ≡ take slash text
    → back ≡ drop (slash + 1) text
    → prefix_of_text text ≡ prefix_of_parts (address_of_text front) (length_of_text back)
unfolding prefix_of_text
prefix_at text front back slash found is_front is_back =
    let place = position_or_len (λ b. eqb b 47) text in
    let same : place ≡ slash = (cond_some (ltb place (length text)) place slash (sym found)).1 in
    ap (λ n. prefix_of_parts (address_of_text (take n text)) (length_of_text (drop (n + 1) text))) same
    ∙ ap (λ t. prefix_of_parts (address_of_text t) (length_of_text (drop (slash + 1) text))) (sym is_front)
    ∙ ap (λ t. prefix_of_parts (address_of_text front) (length_of_text t)) (sym is_back)

no_length : (value : Option ℕ) → None ≡ prefix_of_parts value None
unfolding prefix_of_parts
no_length None = refl
no_length (Some value) = refl

no_length_of_nothing : length_of_text [] ≡ None
unfolding length_of_text
no_length_of_nothing = refl

pub prefix_without_slash : (text : List ℕ) → None ≡ position (λ b. eqb b 47) text → None ≡ prefix_of_text text
unfolding prefix_of_text
prefix_without_slash text none =
    let place = position_or_len (λ b. eqb b 47) text in
    let past : ltb place (length text) ≡ false = none_only (ltb place (length text)) place (sym none) in
    let nothing : drop (place + 1) text ≡ [] = drop_all (place + 1) text (omega (arith, ltb-false place (length text) past)) in
    no_length (address_of_text (take place text))
    ∙ ap (prefix_of_parts (address_of_text (take place text))) (sym (ap length_of_text nothing ∙ no_length_of_nothing))
  where
    none_only : (b : Bool) (n : ℕ) → cond b (Some n) None ≡ None → b ≡ false
    none_only true n e = cc
    none_only false n e = refl

pub prefix_without_address : (text front : List ℕ) (slash : ℕ) → Some slash ≡ position (λ b. eqb b 47) text → front ≡ take slash text
    → None ≡ address_of_text front → None ≡ prefix_of_text text
unfolding prefix_of_parts
prefix_without_address text front slash found is_front none =
    sym (prefix_at text front (drop (slash + 1) text) slash found is_front refl
    ∙ ap (λ o. prefix_of_parts o (length_of_text (drop (slash + 1) text))) (sym none))

pub prefix_without_length : (text back : List ℕ) (slash : ℕ) → Some slash ≡ position (λ b. eqb b 47) text → back ≡ drop (slash + 1) text
    → None ≡ length_of_text back → None ≡ prefix_of_text text
prefix_without_length text back slash found is_back none =
    no_length (address_of_text (take slash text))
    ∙ sym (prefix_at text (take slash text) back slash found refl is_back
    ∙ ap (prefix_of_parts (address_of_text (take slash text))) (sym none))

made : (r : Option PrefixValue) (value len : ℕ) → IsSome r ↔ IsPrefix (record { value = value; len = len })
    → IfSome r (λ p. p ≡ record { value = value; len = len })
    → value < 2 ^ 128 → len ≤ 128 → r ≡ prefix_of_parts (Some value) (Some len)
unfolding prefix_of_parts
made None value len tests is fits short = sym
    (cond-false _ _ _ (ne_eqb (value % 2 ^ (128 - len)) 0 (λ e. false≢true (tests.1 (short, fits, e)))))
made (Some p) value len tests is fits short =
    ap Some is ∙ sym (cond-true _ _ _ (eq-eqb (value % 2 ^ (128 - len)) 0 (tests.0 refl).2))

pub prefix_made : (text front back : List ℕ) (slash value len : ℕ) (r : Option PrefixValue) → Some slash ≡ position (λ b. eqb b 47) text
    → front ≡ take slash text → back ≡ drop (slash + 1) text
    → Some value ≡ address_of_text front → Some len ≡ length_of_text back → IsSome r ↔ IsPrefix (record { value = value; len = len })
    → IfSome r (λ p. p ≡ record { value = value; len = len })
    → value < 2 ^ 128 → len ≤ 128 → r ≡ prefix_of_text text
prefix_made text front back slash value len r found is_front is_back is_value is_len tests is fits short =
    made r value len tests is fits short
    ∙ ap (λ o. prefix_of_parts o (Some len)) is_value ∙ ap (prefix_of_parts (address_of_text front)) is_len
    ∙ sym (prefix_at text front back slash found is_front is_back)
