-- Titles by their numbers: in the order of the SIDs, one for each.
use Rattle.std.proofs.Common.{◌≡◌, ℕ, suc, ◌+◌, ◌≤◌, ◌<◌, Bool, true, false, ◌==◌, ◌&&◌, ◌||◌, not, List, [], ◌∷◌, ◌++◌, length, Option, Some, None, refl, sym, ap, ap₂, ◌∙◌, subst, append_assoc, arith}
use Rattle.std.proofs.lemmas.Bool.{and_parts, and_from, or_from, eqb-true, eq-eqb, ne_eqb, lt-ltb}
use Rattle.std.proofs.lemmas.List.{length-append, nil_from_length}
use Rattle.std.specs.Prelude.{option_and_then}
use Rattle.std.specs.List.{slice_get, list_any, list_all, filter_map, cons_option}
use Rattle.srv6_rules.specs.declared.sid.SidEntry.{SidEntry}
use Rattle.net_model.specs.NetworkRules.{are_distinct, same_number, same_sid}
use Rattle.net_model.specs.NetworkRulesTerms.{is_title, title_of}
use Rattle.net_model.specs.NetworkJudging.{title_text}
use Rattle.net_model.specs.NetworkJudgingTerms.{are_numbers}
use Rattle.update_spec.specs.Joined.{numbered_beside, numbered}

numbers_rise : (from to : ℕ) (ns : List ℕ) → are_numbers from to ns ≡ true → from ≤ to
numbers_rise from to [] h = omega (arith, eqb-true from to h)
numbers_rise from to (n ∷ ns) h =
    let rest = numbers_rise (from + 1) to ns (and_parts _ _ h).1 in
    omega (arith, rest)

pub numbers_append : (a b c : ℕ) (ms ns : List ℕ) → are_numbers a b ms ≡ true → are_numbers b c ns ≡ true
    → are_numbers a c (ms ++ ns) ≡ true
numbers_append a b c [] ns h k = subst (λ m. are_numbers m c ns ≡ true) (sym (eqb-true a b h)) k
numbers_append a b c (m ∷ ms) ns h k =
    let parts = and_parts (m == a) (are_numbers (a + 1) b ms) h in
    and_from _ _ parts.0 (numbers_append (a + 1) b c ms ns parts.1 k)

none_below : (m from to : ℕ) (ns : List ℕ) → m < from → are_numbers from to ns ≡ true → list_any (same_number m) ns ≡ false
none_below m from to [] below h = refl
none_below m from to (n ∷ ns) below h =
    let parts = and_parts (n == from) (are_numbers (from + 1) to ns) h in
    let at = eqb-true n from parts.0 in
    or_from _ _ (ne_eqb m n (λ e. omega (arith, e, at, below))) (none_below m (from + 1) to ns (omega (arith, below)) parts.1)

pub numbers_apart : (from to : ℕ) (ns : List ℕ) → are_numbers from to ns ≡ true → are_distinct same_number ns ≡ true
numbers_apart from to [] h = refl
numbers_apart from to (n ∷ ns) h =
    let parts = and_parts (n == from) (are_numbers (from + 1) to ns) h in
    let at = eqb-true n from parts.0 in
    and_from _ _ (ap not (none_below n (from + 1) to ns (omega (arith, at)) parts.1)) (numbers_apart (from + 1) to ns parts.1)

-- ---- the texts of titles that are so numbered are all titles

at_seam : (front : List (List ℕ)) (t : List ℕ) (rest : List (List ℕ)) → slice_get (front ++ t ∷ rest) (length front) ≡ Some t
at_seam [] t rest = refl
at_seam (x ∷ front) t rest = at_seam front t rest

none_left : (titles front rest : List (List ℕ)) → titles ≡ front ++ rest → length front ≡ length titles → [] ≡ rest
none_left titles front rest e f =
    let all : length titles ≡ length front + length rest = ap length e ∙ length-append front rest in
    sym (nil_from_length rest (omega (arith, all, f)))

one_more : (titles front rest : List (List ℕ)) (n : ℕ) (ns : List ℕ) (texts : List (List ℕ)) → titles ≡ front ++ rest → n ≡ length front
    → are_numbers (length front + 1) (length titles) ns ≡ true
    → ((t : List ℕ) (more : List (List ℕ)) → titles ≡ (front ++ t ∷ []) ++ more → texts ≡ more)
    → cons_option (slice_get titles n) texts ≡ rest
one_more titles front [] n ns texts e at h f =
    let all : length titles ≡ length front + 0 = ap length e ∙ length-append front [] in
    let rise = numbers_rise _ _ ns h in
    absurd (omega (arith, all, rise))
one_more titles front (t ∷ more) n ns texts e at h f =
    let found : slice_get titles n ≡ Some t = rw (e, at) (at_seam front t more) in
    ap (λ o. cons_option o texts) found ∙ ap (λ ts. t ∷ ts) (f t more (e ∙ sym (append_assoc front (t ∷ []) more)))

-- the titles that follow some are those of the SIDs that are left
follow : (titles front rest : List (List ℕ)) (ss : List SidEntry) → titles ≡ front ++ rest
    → are_numbers (length front) (length titles) (filter_map title_of ss) ≡ true → filter_map (title_text titles) ss ≡ rest
follow titles front rest [] e h = none_left titles front rest e (eqb-true _ _ h)
follow titles front rest (s ∷ ss) e h =
    elim s.title as (λ o. are_numbers (length front) (length titles) (cons_option o (filter_map title_of ss)) ≡ true
    → cons_option (option_and_then (slice_get titles) o) (filter_map (title_text titles) ss) ≡ rest) [
      | None ↦ λ k. follow titles front rest ss e k
      | Some n ↦ λ k.
          let parts = and_parts (n == length front) (are_numbers (length front + 1) (length titles) (filter_map title_of ss)) k in
          one_more titles front rest n (filter_map title_of ss) (filter_map (title_text titles) ss) e (eqb-true _ _ parts.0) parts.1
          (λ t more f. follow titles (front ++ t ∷ []) more ss f
          (subst (λ m. are_numbers m (length titles) (filter_map title_of ss) ≡ true) (sym (length-append front (t ∷ []))) parts.1))
    ] h

pub titles_are_texts : (titles : List (List ℕ)) (ss : List SidEntry) → are_numbers 0 (length titles) (filter_map title_of ss) ≡ true
    → filter_map (title_text titles) ss ≡ titles
titles_are_texts titles ss h = follow titles [] titles ss refl h

-- ---- SIDs whose titles are numbered anew

up : (to n k : ℕ) → to ≡ n + suc k → to ≡ n + 1 + k
up to n k e = omega (arith, e)

pub numbered_numbers : (titles : List (List ℕ)) (n to : ℕ) (ss : List SidEntry) → to ≡ n + length (filter_map (title_text titles) ss)
    → are_numbers n to (filter_map title_of (numbered titles n ss)) ≡ true
numbered_numbers titles n to [] e = eq-eqb n to (omega (arith, e))
numbered_numbers titles n to (s ∷ ss) e =
    elim (title_text titles s) as (λ o. to ≡ n + length (cons_option o (filter_map (title_text titles) ss))
    → are_numbers n to (filter_map title_of (numbered_beside o n s (λ m. numbered titles m ss))) ≡ true) [
      | None ↦ λ f. numbered_numbers titles n to ss f
      | Some t ↦ λ f. and_from _ _ (eq-eqb n n refl)
          (numbered_numbers titles (n + 1) to ss (up to n (length (filter_map (title_text titles) ss)) f))
    ] e

within : (n k most : ℕ) → n + suc k ≤ most → n < most
within n k most h = omega (arith, h)

within_more : (n k most : ℕ) → n + suc k ≤ most → n + 1 + k ≤ most
within_more n k most h = omega (arith, h)

pub numbered_all : (p q : SidEntry → Bool) (most : ℕ)
    → ((s : SidEntry) (o : Option ℕ) → p s ≡ true → is_title most o ≡ true → q (record s { title = o }) ≡ true)
    → (titles : List (List ℕ)) (n : ℕ) (ss : List SidEntry) → n + length (filter_map (title_text titles) ss) ≤ most
    → list_all p ss ≡ true → list_all q (numbered titles n ss) ≡ true
numbered_all p q most f titles n [] e h = refl
numbered_all p q most f titles n (s ∷ ss) e h =
    let parts = and_parts _ _ h in
    elim (title_text titles s) as (λ o. n + length (cons_option o (filter_map (title_text titles) ss)) ≤ most
    → list_all q (numbered_beside o n s (λ m. numbered titles m ss)) ≡ true) [
      | None ↦ λ g. and_from _ _ (f s None parts.0 refl) (numbered_all p q most f titles n ss g parts.1)
      | Some t ↦ λ g. and_from _ _ (f s (Some n) parts.0 (lt-ltb _ _ (within n (length (filter_map (title_text titles) ss)) most g)))
          (numbered_all p q most f titles (n + 1) ss (within_more n (length (filter_map (title_text titles) ss)) most g) parts.1)
    ] e

pub numbered_any : (titles : List (List ℕ)) (n : ℕ) (s : SidEntry) (ss : List SidEntry)
    → list_any (same_sid s) (numbered titles n ss) ≡ list_any (same_sid s) ss
numbered_any titles n s [] = refl
numbered_any titles n s (t ∷ ss) =
    elim (title_text titles t) as (λ o. list_any (same_sid s) (numbered_beside o n t (λ m. numbered titles m ss))
    ≡ list_any (same_sid s) (t ∷ ss)) [
      | None ↦ ap (λ b. same_sid s t || b) (numbered_any titles n s ss)
      | Some u ↦ ap (λ b. same_sid s t || b) (numbered_any titles (n + 1) s ss)
    ]

pub any_same : {X : Type 0} (p q : X → Bool) → ((x : X) → p x ≡ q x) → (xs : List X) → list_any p xs ≡ list_any q xs
any_same p q f [] = refl
any_same p q f (x ∷ xs) = ap₂ (λ a b. a || b) (f x) (any_same p q f xs)

-- a SID's title tells nothing of whether another is the same
retitled : (s : SidEntry) (o : Option ℕ) (ts : List SidEntry)
    → list_any (same_sid (record s { title = o })) ts ≡ list_any (same_sid s) ts
retitled s o ts = any_same (same_sid (record s { title = o })) (same_sid s) (λ t. refl) ts

pub numbered_distinct : (titles : List (List ℕ)) (n : ℕ) (ss : List SidEntry)
    → are_distinct same_sid (numbered titles n ss) ≡ are_distinct same_sid ss
numbered_distinct titles n [] = refl
numbered_distinct titles n (s ∷ ss) =
    elim (title_text titles s) as (λ o. are_distinct same_sid (numbered_beside o n s (λ m. numbered titles m ss))
    ≡ are_distinct same_sid (s ∷ ss)) [
      | None ↦ ap₂ (λ a b. not a && b) (retitled s None (numbered titles n ss) ∙ numbered_any titles n s ss) (numbered_distinct titles n ss)
      | Some u ↦ ap₂ (λ a b. not a && b) (retitled s (Some n) (numbered titles (n + 1) ss) ∙ numbered_any titles (n + 1) s ss)
          (numbered_distinct titles (n + 1) ss)
    ]
