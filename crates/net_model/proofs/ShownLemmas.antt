-- What is shown where some entries are hidden.
use Rattle.std.proofs.Common.{◌≡◌, inl, inr, ℕ, zero, suc, ◌<◌, Bool, true, false, ◌==◌, ◌&&◌, ◌||◌, not, List, [], ◌∷◌, ◌++◌, map, length, take, Some, slice_get, refl, sym, ap, ◌∙◌, arith}
use Rattle.std.proofs.lemmas.Bool.{cases_Bool, eqb-true, eq-eqb, both_ways, false≢true}
use Rattle.std.specs.Prelude.{slice_index_or}
use Rattle.std.specs.List.{list_any}
use Rattle.net_model.specs.declared.net.EntryId.{EntryId}
use Rattle.net_model.specs.declared.net.Hit.{Hit}
use Rattle.net_model.specs.declared.net.Hit.TheVariants as hits
use Rattle.net_model.specs.Network.{Network, hit_of_entry, is_shown, same_hit}
use Rattle.net_model.specs.NetworkTerms.{HidesThese, IsEdited}

-- ---- hits that are the same

same_number : (m n : ℕ) → (m == n) ≡ (n == m)
same_number m n = elim (cases_Bool (m == n)) [
  | inl is ↦ is ∙ sym (eq-eqb n m (sym (eqb-true m n is)))
  | inr other ↦ elim (cases_Bool (n == m)) [
    | inl is ↦ absurd (both_ways _ other (eq-eqb m n (sym (eqb-true n m is))))
    | inr also ↦ other ∙ sym also
  ]
]

pub same_back : (h k : Hit) → same_hit h k ≡ same_hit k h
same_back (hits.Sid m) (hits.Sid n) = same_number m n
same_back (hits.Sid m) hits.Address = refl
same_back (hits.Sid m) (hits.Route n) = refl
same_back (hits.Sid m) hits.Nothing = refl
same_back hits.Address (hits.Sid n) = refl
same_back hits.Address hits.Address = refl
same_back hits.Address (hits.Route n) = refl
same_back hits.Address hits.Nothing = refl
same_back (hits.Route m) (hits.Sid n) = refl
same_back (hits.Route m) hits.Address = refl
same_back (hits.Route m) (hits.Route n) = same_number m n
same_back (hits.Route m) hits.Nothing = refl
same_back hits.Nothing (hits.Sid n) = refl
same_back hits.Nothing hits.Address = refl
same_back hits.Nothing (hits.Route n) = refl
same_back hits.Nothing hits.Nothing = refl

same_is : (h k : Hit) → same_hit h k ≡ true → h ≡ k
same_is (hits.Sid m) (hits.Sid n) is = ap (λ (l : ℕ). hits.Sid l) (eqb-true m n is)
same_is (hits.Sid m) hits.Address is = absurd (false≢true is)
same_is (hits.Sid m) (hits.Route n) is = absurd (false≢true is)
same_is (hits.Sid m) hits.Nothing is = absurd (false≢true is)
same_is hits.Address (hits.Sid n) is = absurd (false≢true is)
same_is hits.Address hits.Address is = refl
same_is hits.Address (hits.Route n) is = absurd (false≢true is)
same_is hits.Address hits.Nothing is = absurd (false≢true is)
same_is (hits.Route m) (hits.Sid n) is = absurd (false≢true is)
same_is (hits.Route m) hits.Address is = absurd (false≢true is)
same_is (hits.Route m) (hits.Route n) is = ap (λ (l : ℕ). hits.Route l) (eqb-true m n is)
same_is (hits.Route m) hits.Nothing is = absurd (false≢true is)
same_is hits.Nothing (hits.Sid n) is = absurd (false≢true is)
same_is hits.Nothing hits.Address is = absurd (false≢true is)
same_is hits.Nothing (hits.Route n) is = absurd (false≢true is)
same_is hits.Nothing hits.Nothing is = refl

pub same_self : (h : Hit) → same_hit h h ≡ true
same_self (hits.Sid m) = eq-eqb m m refl
same_self hits.Address = refl
same_self (hits.Route m) = eq-eqb m m refl
same_self hits.Nothing = refl

-- ---- one entry more or less

abbrev pub shown_without : List EntryId → Hit → Bool
shown_without entries h = is_shown (map hit_of_entry entries) h

pub shown_first : (e : EntryId) (es : List EntryId) (h : Hit)
    → shown_without (e ∷ es) h ≡ (not (same_hit h (hit_of_entry e)) && shown_without es h)
shown_first e es h = elim (same_hit h (hit_of_entry e)) as (λ b. not (b || list_any (same_hit h) (map hit_of_entry es))
    ≡ (not b && shown_without es h)) [ true ↦ refl | false ↦ refl ]

and_true : (b : Bool) → (b && true) ≡ b
and_true true = refl
and_true false = refl

and_assoc : (a b c : Bool) → (a && (b && c)) ≡ ((a && b) && c)
and_assoc true b c = refl
and_assoc false b c = refl

pub shown_append : (es fs : List EntryId) (h : Hit) → shown_without (es ++ fs) h ≡ (shown_without es h && shown_without fs h)
shown_append [] fs h = refl
shown_append (x ∷ es) fs h =
    shown_first x (es ++ fs) h
    ∙ (ap (λ b. not (same_hit h (hit_of_entry x)) && b) (shown_append es fs h)
    ∙ (and_assoc (not (same_hit h (hit_of_entry x))) (shown_without es h) (shown_without fs h)
    ∙ ap (λ b. b && shown_without fs h) (sym (shown_first x es h))))

shown_behind : (es : List EntryId) (e : EntryId) (h : Hit)
    → shown_without (es ++ e ∷ []) h ≡ (shown_without es h && not (same_hit h (hit_of_entry e)))
shown_behind es e h = shown_append es (e ∷ []) h ∙ ap (λ b. shown_without es h && b) (shown_first e [] h ∙ and_true _)

pub get_index : (es : List EntryId) (k : ℕ) (d : EntryId) → k < length es → slice_get es k ≡ Some (slice_index_or es k d)
get_index [] k d within = absurd (omega (arith, within))
get_index (x ∷ es) zero d within = refl
get_index (x ∷ es) (suc k) d within = get_index es k d (omega (arith, within))

pub last_taken : (es : List EntryId) (k : ℕ) (e : EntryId) → slice_get es k ≡ Some e → take (suc k) es ≡ take k es ++ e ∷ []
last_taken [] k e there = cc
last_taken (x ∷ es) zero e there = let same : x ≡ e = cc in ap (λ (y : EntryId). y ∷ []) same
last_taken (x ∷ es) (suc k) e there = ap (λ (l : List EntryId). x ∷ l) (last_taken es k e there)

-- ---- an edit of what is shown

module _ (old new : Network) (e : EntryId) where
  -- all hits but the entry's are as before, and the entry's is as given
  pub by_hit : (shown : Bool) (was now : List EntryId) → IsEdited old new (hit_of_entry e) shown → HidesThese old.hidden was
      → shown_without now (hit_of_entry e) ≡ shown
      → ((h : Hit) → same_hit (hit_of_entry e) h ≡ false → shown_without now h ≡ shown_without was h) → HidesThese new.hidden now
  by_hit shown was now edited shows here others h = elim (cases_Bool (same_hit (hit_of_entry e) h)) [
    | inl same ↦ (let is : hit_of_entry e ≡ h = same_is (hit_of_entry e) h same in
        ap (is_shown new.hidden) (sym is) ∙ (edited.there ∙ (sym here ∙ ap (shown_without now) is)))
    | inr other ↦ edited.others h other ∙ (shows h ∙ sym (others h other))
  ]

  -- the next of the entries that are shown is hidden
  pub hide_next : (es : List EntryId) (k : ℕ) → slice_get es k ≡ Some e
      → IsEdited old new (hit_of_entry e) false → HidesThese old.hidden (take k es) → HidesThese new.hidden (take (suc k) es)
  hide_next es k there edited shows =
      by_hit false (take k es) (take (suc k) es) edited shows
      (ap (λ l. shown_without l (hit_of_entry e)) (last_taken es k e there)
      ∙ (shown_behind (take k es) e (hit_of_entry e)
      ∙ (ap (λ b. shown_without (take k es) (hit_of_entry e) && not b) (same_self (hit_of_entry e)) ∙ and_false _)))
      (λ h other.
      let apart : same_hit h (hit_of_entry e) ≡ false = same_back h (hit_of_entry e) ∙ other in
      ap (λ l. shown_without l h) (last_taken es k e there)
      ∙ (shown_behind (take k es) e h ∙ (ap (λ b. shown_without (take k es) h && not b) apart ∙ and_true _)))
    where
      and_false : (b : Bool) → (b && false) ≡ false
      and_false true = refl
      and_false false = refl
