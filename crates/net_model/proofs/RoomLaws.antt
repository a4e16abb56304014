-- No SID has a fault of room or of its title exactly where its node has room for its SIDs and titles stand once.
use Rattle.std.proofs.Common.{◌≡◌, ℕ, ◌+◌, ◌≤◌, ◌<◌, Bool, true, false, ◌==◌, ◌&&◌, ◌||◌, not, cond, List, [], ◌∷◌, ◌++◌, length, Option, Some, None, refl, sym, ap, ◌∙◌, subst, append_assoc, append-nil, arith}
use Rattle.std.proofs.lemmas.Bool.{and_parts, and_from, not-true, leb-true, leb-false, le-leb, lt-leb, eqb-true, ne_eqb}
use Rattle.std.proofs.lemmas.List.{length-append}
use Rattle.std.proofs.lemmas.List.Sums.{sum_by-append, sum_by-cons}
use Rattle.std.specs.Prelude.{option_and_then}
use Rattle.std.specs.List.{list_any, list_all, slice_get, count_by, filter_map, cons_option}
use Rattle.srv6_rules.specs.declared.sid.SidEntry.{SidEntry}
use Rattle.net_model.specs.declared.limits.TheConstants.{MAX_SIDS_OF_NODE}
use Rattle.net_model.specs.Network.{Network}
use Rattle.net_model.specs.NetworkRules.{are_distinct, same_bytes, same_number, is_sid_of, has_room}
use Rattle.net_model.specs.NetworkRulesTerms.{title_of}
use Rattle.net_model.specs.NetworkJudging.{stands_before, title_text, same_text, same_title_text, is_full}
use Rattle.net_model.specs.NetworkJudgingTerms.{are_numbers, InRange}
use Rattle.net_model.proofs.PassesLemmas.{passes, passes_distinct}

-- ---- room at a node

same_bool : (a b : Bool) → (a ≡ true → b ≡ true) → (b ≡ true → a ≡ true) → a ≡ b
same_bool true b f g = sym (f refl)
same_bool false true f g = g refl
same_bool false false f g = refl

count_in : (n : ℕ) (ys : List SidEntry) (x : SidEntry) (xs : List SidEntry)
    → count_by (is_sid_of n) (ys ++ x ∷ xs) ≡ count_by (is_sid_of n) ys + (cond (x.node == n) 1 0 + count_by (is_sid_of n) xs)
count_in n ys x xs =
    let one : SidEntry → ℕ = λ s. cond (is_sid_of n s) 1 0 in
    sum_by-append one ys (x ∷ xs) ∙ ap (λ m. count_by (is_sid_of n) ys + m) (sum_by-cons one x xs)

one_more : (count room : ℕ) (here : Bool) → count ≤ room → (here ≡ true → count < room) → count + (cond here 1 0 + 0) ≤ room
one_more count room true h f = omega (arith, f refl)
one_more count room false h f = omega (arith, h)

with_last : (ys : List SidEntry) (x : SidEntry) → not (is_full ys x) ≡ true
    → ((n : ℕ) → count_by (is_sid_of n) ys ≤ MAX_SIDS_OF_NODE) → (n : ℕ) → count_by (is_sid_of n) (ys ++ x ∷ []) ≤ MAX_SIDS_OF_NODE
with_last ys x free most n =
    subst (λ c. c ≤ MAX_SIDS_OF_NODE) (sym (count_in n ys x []))
    (one_more (count_by (is_sid_of n) ys) MAX_SIDS_OF_NODE (x.node == n) (most n)
    (λ here. subst (λ m. count_by (is_sid_of m) ys < MAX_SIDS_OF_NODE) (eqb-true _ _ here) (leb-false _ _ (not-true _ free))))

room_over : (ys xs : List SidEntry) → passes (λ before s. not (is_full before s)) ys xs ≡ true
    → ((n : ℕ) → count_by (is_sid_of n) ys ≤ MAX_SIDS_OF_NODE) → (n : ℕ) → count_by (is_sid_of n) (ys ++ xs) ≤ MAX_SIDS_OF_NODE
room_over ys [] h most n = subst (λ zs. count_by (is_sid_of n) zs ≤ MAX_SIDS_OF_NODE) (sym (append-nil ys)) (most n)
room_over ys (x ∷ xs) h most n =
    let parts = and_parts _ _ h in
    subst (λ zs. count_by (is_sid_of n) zs ≤ MAX_SIDS_OF_NODE) (append_assoc ys (x ∷ []) xs)
    (room_over (ys ++ x ∷ []) xs parts.1 (with_last ys x parts.0 most) n)

each_has_room : (all xs : List SidEntry) → ((n : ℕ) → count_by (is_sid_of n) all ≤ MAX_SIDS_OF_NODE) → list_all (has_room all) xs ≡ true
each_has_room all [] most = refl
each_has_room all (x ∷ xs) most = and_from _ _ (le-leb _ _ (most x.node)) (each_has_room all xs most)

one_fewer : (count room more : ℕ) (here : Bool) → here ≡ true → count + (cond here 1 0 + more) ≤ room → count < room
one_fewer count room more true e h = omega (arith, h)
one_fewer count room more false e h = cc

room_under : (all ys xs : List SidEntry) → all ≡ ys ++ xs → list_all (has_room all) xs ≡ true
    → passes (λ before s. not (is_full before s)) ys xs ≡ true
room_under all ys [] e h = refl
room_under all ys (x ∷ xs) e h =
    let parts = and_parts _ _ h in
    let bound = subst (λ c. c ≤ MAX_SIDS_OF_NODE) (ap (count_by (is_sid_of x.node)) e ∙ count_in x.node ys x xs) (leb-true _ _ parts.0) in
    let fewer = one_fewer (count_by (is_sid_of x.node) ys) MAX_SIDS_OF_NODE (count_by (is_sid_of x.node) xs) (x.node == x.node)
    (same_self x.node) bound in
    and_from _ _ (ap not (lt-leb _ _ fewer)) (room_under all (ys ++ x ∷ []) xs (e ∙ sym (append_assoc ys (x ∷ []) xs)) parts.1)
  where
    same_self : (n : ℕ) → (n == n) ≡ true
    same_self n = grind arith

pub room_law : (sids : List SidEntry) → passes (λ before s. not (is_full before s)) [] sids ≡ list_all (has_room sids) sids
room_law sids = same_bool _ _ (λ h. each_has_room sids sids (room_over [] sids h (λ n. omega arith))) (room_under sids [] sids refl)

-- ---- titles

none_same : (f : SidEntry → Option (List ℕ)) (sids : List SidEntry) → list_any (λ s. same_text None (f s)) sids ≡ false
none_same f [] = refl
none_same f (s ∷ sids) = none_same f sids

some_same : (f : SidEntry → Option (List ℕ)) (t : List ℕ) (sids : List SidEntry)
    → list_any (λ s. same_text (Some t) (f s)) sids ≡ list_any (same_bytes t) (filter_map f sids)
some_same f t [] = refl
some_same f t (s ∷ sids) =
    elim (f s) as (λ o. (same_text (Some t) o || list_any (λ s. same_text (Some t) (f s)) sids)
    ≡ list_any (same_bytes t) (cons_option o (filter_map f sids)))
    [ None ↦ some_same f t sids | Some u ↦ ap (λ b. same_bytes t u || b) (some_same f t sids) ]

distinct_texts : (f : SidEntry → Option (List ℕ)) (sids : List SidEntry)
    → are_distinct (λ s t. same_text (f s) (f t)) sids ≡ are_distinct same_bytes (filter_map f sids)
distinct_texts f [] = refl
distinct_texts f (s ∷ sids) =
    elim (f s) as (λ o. (not (list_any (λ t. same_text o (f t)) sids) && are_distinct (λ s t. same_text (f s) (f t)) sids)
    ≡ are_distinct same_bytes (cons_option o (filter_map f sids))) [
      | None ↦ ap (λ b. not b && are_distinct (λ s t. same_text (f s) (f t)) sids) (none_same f sids) ∙ distinct_texts f sids
      | Some t ↦ ap (λ b. not b && are_distinct (λ s t. same_text (f s) (f t)) sids) (some_same f t sids)
          ∙ ap (λ b. not (list_any (same_bytes t) (filter_map f sids)) && b) (distinct_texts f sids)
    ]

texts_of : (titles : List (List ℕ)) (sids : List SidEntry)
    → filter_map (title_text titles) sids ≡ filter_map (slice_get titles) (filter_map title_of sids)
texts_of titles [] = refl
texts_of titles (s ∷ sids) =
    elim s.title as (λ o. cons_option (option_and_then (slice_get titles) o) (filter_map (title_text titles) sids)
    ≡ filter_map (slice_get titles) (cons_option o (filter_map title_of sids))) [
      | None ↦ texts_of titles sids
      | Some n ↦ ap (cons_option (slice_get titles n)) (texts_of titles sids)
    ]

at_seam : (front : List (List ℕ)) (t : List ℕ) (rest : List (List ℕ)) → slice_get (front ++ t ∷ rest) (length front) ≡ Some t
at_seam [] t rest = refl
at_seam (x ∷ front) t rest = at_seam front t rest

-- the numbers of items from a number on
abbrev numbers_from : {X : Type 0} → ℕ → List X → List ℕ
numbers_from n [] = []
numbers_from n (x ∷ xs) = n ∷ numbers_from (n + 1) xs

numbers_rise : (from to : ℕ) (ns : List ℕ) → are_numbers from to ns ≡ true → from ≤ to
numbers_rise from to [] h = omega (arith, eqb-true from to h)
numbers_rise from to (n ∷ ns) h =
    let rest = numbers_rise (from + 1) to ns (and_parts _ _ h).1 in
    omega (arith, rest)

numbers_are : {X : Type 0} (from to : ℕ) (ns : List ℕ) (xs : List X) → to ≡ from + length xs → are_numbers from to ns ≡ true
    → ns ≡ numbers_from from xs
numbers_are from to [] [] e h = refl
numbers_are from to [] (x ∷ xs) e h = absurd (omega (arith, e, eqb-true from to h))
numbers_are from to (n ∷ ns) [] e h =
    let past = numbers_rise (from + 1) to ns (and_parts _ _ h).1 in
    absurd (omega (arith, e, past))
numbers_are from to (n ∷ ns) (x ∷ xs) e h =
    let parts = and_parts (n == from) (are_numbers (from + 1) to ns) h in
    let more : to ≡ from + 1 + length xs = omega (arith, e) in
    ap (λ m. m ∷ ns) (eqb-true n from parts.0) ∙ ap (λ ms. from ∷ ms) (numbers_are (from + 1) to ns xs more parts.1)

pub titles_numbered : (net : Network) → InRange net → filter_map title_of net.sids ≡ numbers_from 0 net.titles
titles_numbered net range =
    let all : length net.titles ≡ 0 + length net.titles = omega arith in
    numbers_are 0 (length net.titles) (filter_map title_of net.sids) net.titles all range.title_numbers

by_numbers : (titles front rest : List (List ℕ)) (n : ℕ) → titles ≡ front ++ rest → n ≡ length front
    → filter_map (slice_get titles) (numbers_from n rest) ≡ rest
by_numbers titles front [] n e at = refl
by_numbers titles front (t ∷ rest) n e at =
    let found : slice_get titles n ≡ Some t = rw (e, at) (at_seam front t rest) in
    ap (λ o. cons_option o (filter_map (slice_get titles) (numbers_from (n + 1) rest))) found
    ∙ ap (λ ts. t ∷ ts) (by_numbers titles (front ++ t ∷ []) rest (n + 1) (e ∙ sym (append_assoc front (t ∷ []) rest))
    (ap (λ m. m + 1) at ∙ sym (length-append front (t ∷ []))))

below_all : (m n : ℕ) (xs : List (List ℕ)) → m < n → list_any (same_number m) (numbers_from n xs) ≡ false
below_all m n [] h = refl
below_all m n (x ∷ xs) h =
    ap (λ b. b || list_any (same_number m) (numbers_from (n + 1) xs)) (ne_eqb m n (λ e. omega (arith, e, h)))
    ∙ below_all m (n + 1) xs (omega (arith, h))

pub numbers_distinct : (n : ℕ) (xs : List (List ℕ)) → are_distinct same_number (numbers_from n xs) ≡ true
numbers_distinct n [] = refl
numbers_distinct n (x ∷ xs) = and_from _ _ (ap not (below_all n (n + 1) xs (omega arith))) (numbers_distinct (n + 1) xs)

pub titles_law : (net : Network) → InRange net
    → passes (λ before s. not (stands_before (same_title_text net.titles) before s)) [] net.sids ≡ are_distinct same_bytes net.titles
titles_law net range =
    passes_distinct (same_title_text net.titles) net.sids
    ∙ (distinct_texts (title_text net.titles) net.sids
    ∙ ap (are_distinct same_bytes) (texts_of net.titles net.sids
    ∙ (ap (filter_map (slice_get net.titles)) (titles_numbered net range) ∙ by_numbers net.titles [] net.titles 0 refl refl)))
