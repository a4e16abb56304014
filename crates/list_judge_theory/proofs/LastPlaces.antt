-- Places in the last container of a list, by how many SIDs are left.
use Rattle.std.proofs.Common.{◌≡◌, ℕ, suc, ◌<◌, ◌≤◌, ◌⊎◌, inl, inr, List, [], ◌∷◌, ◌++◌, length, Some, refl, ap, subst, arith, length-append}
use Rattle.std.proofs.lemmas.List.{length-map}
use Rattle.net_model.specs.Network.{Network}
use Rattle.sid_list_spec.specs.SegmentLists as lists
use Rattle.sid_list_spec.specs.SegmentLists.{ListSid}
use Rattle.sid_list_theory.specs.SegmentListsTerms.{sids_in, sids_of}
use Rattle.sid_list_theory.specs.ListPlaces.{ListPlace, InFull, InPacked, behind_of, entered, first_of, next_of, sids_from}
use Rattle.list_pack.specs.declared.types.Container.{Container}
use Rattle.list_pack.specs.declared.types.Container.TheVariants.{Full, Packed}
use Rattle.list_pack.specs.SidLists.{container_in, list_in, list_sid}
use Rattle.leg_table.proofs.StrictOptions.{some_same}
use Rattle.list_judge_theory.specs.ListCourses.{in_last}

-- how many SIDs the last container has
abbrev pub last_in : List lists.Container → ℕ
last_in [] = 0
last_in (c ∷ []) = length (sids_of c)
last_in (c ∷ d ∷ ds) = last_in (d ∷ ds)

-- in the last container so many are left at most, and in front of it that has so many
abbrev pub IsLast : ℕ → List ListSid → List lists.Container → Type 0
IsLast tail ss [] = length ss ≤ tail
IsLast tail ss (c ∷ cs) = last_in (c ∷ cs) ≡ tail

-- so it is at a place, or there are none
abbrev pub InTail : ℕ → ListPlace → Type 0
InTail tail x = (tail ≡ 0) ⊎ IsLast tail (sids_from x) (behind_of x)

last_few : (c : lists.Container) (cs : List lists.Container) → last_in (c ∷ cs) ≤ length (sids_in (c ∷ cs))
last_few c [] = let e = length-append (sids_of c) (sids_in []) in omega (arith, e)
last_few c (d ∷ ds) =
    let e = length-append (sids_of c) (sids_in (d ∷ ds)) in
    let rest = last_few d ds in
    omega (arith, e, rest)

-- where no more SIDs are left than are in the last container, the place is in that
pub tail_last : (tail : ℕ) (x : ListPlace) → InTail tail x → 0 < length (sids_from x) → length (sids_from x) ≤ tail → behind_of x ≡ []
tail_last tail x (inl none) some few = absurd (omega (arith, none, some, few))
tail_last tail (InFull s ss []) (inr is) some few = refl
tail_last tail (InFull s ss (c ∷ cs)) (inr is) some few =
    let e = length-append (s ∷ ss) (sids_in (c ∷ cs)) in
    let last = last_few c cs in
    absurd (omega (arith, e, last, is, few))
tail_last tail (InPacked bs s ss []) (inr is) some few = refl
tail_last tail (InPacked bs s ss (c ∷ cs)) (inr is) some few =
    let e = length-append (s ∷ ss) (sids_in (c ∷ cs)) in
    let last = last_few c cs in
    absurd (omega (arith, e, last, is, few))

-- and the other way round
pub last_tail : (tail : ℕ) (x : ListPlace) → (tail ≡ 0 → ⊥) → InTail tail x → behind_of x ≡ [] → length (sids_from x) ≤ tail
last_tail tail x some (inl none) last = absurd (some none)
last_tail tail (InFull s ss []) some (inr is) last = is
last_tail tail (InFull s ss (c ∷ cs)) some (inr is) last = absurd (cc)
last_tail tail (InPacked bs s ss []) some (inr is) last = is
last_tail tail (InPacked bs s ss (c ∷ cs)) some (inr is) last = absurd (cc)

entered_last : (tail : ℕ) (c : lists.Container) (cs : List lists.Container) → last_in (c ∷ cs) ≡ tail
    → IsLast tail (sids_from (entered c cs)) (behind_of (entered c cs))
entered_last tail (lists.Full s ss) [] e = let f = length-append (s ∷ ss) (sids_in []) in omega (arith, e, f)
entered_last tail (lists.Packed s ss) [] e = let f = length-append (s ∷ ss) (sids_in []) in omega (arith, e, f)
entered_last tail (lists.Full s ss) (d ∷ ds) e = e
entered_last tail (lists.Packed s ss) (d ∷ ds) e = e

to_last : (tail : ℕ) (x y : ListPlace) → Some x ≡ Some y → IsLast tail (sids_from x) (behind_of x) → IsLast tail (sids_from y) (behind_of y)
to_last tail x y e is = subst (λ (z : ListPlace). IsLast tail (sids_from z) (behind_of z)) (some_same x y e) is

fewer : (tail : ℕ) (s t : ListSid) (ts : List ListSid) (cs : List lists.Container) → IsLast tail (s ∷ t ∷ ts ++ sids_in cs) cs
    → IsLast tail (t ∷ ts ++ sids_in cs) cs
fewer tail s t ts [] is = omega (arith, is)
fewer tail s t ts (c ∷ cs) is = is

next_last : (tail : ℕ) (x y : ListPlace) → IsLast tail (sids_from x) (behind_of x) → next_of x ≡ Some y
    → IsLast tail (sids_from y) (behind_of y)
next_last tail (InFull s [] []) y is e = absurd (cc)
next_last tail (InFull s [] (c ∷ cs)) y is e = to_last tail (entered c cs) y e (entered_last tail c cs is)
next_last tail (InFull s (t ∷ ts) cs) y is e = to_last tail (InFull t ts cs) y e (fewer tail s t ts cs is)
next_last tail (InPacked bs s [] []) y is e = absurd (cc)
next_last tail (InPacked bs s [] (c ∷ cs)) y is e = to_last tail (entered c cs) y e (entered_last tail c cs is)
next_last tail (InPacked bs s (t ∷ ts) cs) y is e = to_last tail (InPacked (bs ++ s ∷ []) t ts cs) y e (fewer tail s t ts cs is)

pub next_tail : (tail : ℕ) (x y : ListPlace) → InTail tail x → next_of x ≡ Some y → InTail tail y
next_tail tail x y (inl none) e = inl none
next_tail tail x y (inr is) e = inr (next_last tail x y is e)

-- ---- lists of prefixes

in_list : (net : Network) (list : List Container) → last_in (list_in net list) ≡ in_last list
in_list net [] = refl
in_list net (Full first more ∷ []) = ap suc (length-map more (list_sid net))
in_list net (Packed first more ∷ []) = ap suc (length-map more (list_sid net))
in_list net (c ∷ d ∷ ds) = in_list net (d ∷ ds)

pub first_tail : (net : Network) (list : List Container) (x : ListPlace) → first_of (list_in net list) ≡ Some x → InTail (in_last list) x
first_tail net [] x e = absurd (cc)
first_tail net (c ∷ cs) x e =
    inr (to_last (in_last (c ∷ cs)) (entered (container_in net c) (list_in net cs)) x e
    (entered_last (in_last (c ∷ cs)) (container_in net c) (list_in net cs) (in_list net (c ∷ cs))))

pub in_last_some : (c : Container) (cs : List Container) → in_last (c ∷ cs) ≡ 0 → ⊥
in_last_some (Full first more) [] e = omega (arith, e)
in_last_some (Packed first more) [] e = omega (arith, e)
in_last_some c (d ∷ ds) e = in_last_some d ds e
