-- The prefixes of a list, and how many SIDs its last container has.
use Rattle.std.proofs.Common.{◌≡◌, ℕ, suc, ◌+◌, ◌-◌, ◌≤◌, Bool, true, false, List, [], ◌∷◌, ◌++◌, length, drop, Some, slice_get, refl, sym, ◌∙◌, ap, subst, arith, append_assoc}
use Rattle.v6_addr.specs.Address.{PrefixValue}
use Rattle.list_pack.specs.declared.types.Container.{Container}
use Rattle.list_pack.specs.SidLists.{prefixes_in, prefixes_of}
use Rattle.list_pack.proofs.SidLoops.{drop_item, drop_past}
use Rattle.list_judge_theory.specs.ListCourses.{in_last, tail_of}

pub last_of_list : (list : List Container) (c : Container) → slice_get list (length list - 1) ≡ Some c → in_last list ≡ length (prefixes_of c)
last_of_list [] c e = absurd (cc)
last_of_list (d ∷ []) c e = let same : d ≡ c = cc in ap (λ (x : Container). length (prefixes_of x)) same
last_of_list (d ∷ f ∷ list) c e =
    let less : length (d ∷ f ∷ list) - 1 ≡ suc (length (f ∷ list) - 1) = omega arith in
    last_of_list (f ∷ list) c (subst (λ (n : ℕ). slice_get (d ∷ f ∷ list) n ≡ Some c) less e)

-- the prefixes so far and those of the containers that are left are those of the list
pub prefixes_next : (list : List Container) (i : ℕ) (c : Container) (before after : List PrefixValue) → slice_get list i ≡ Some c
    → before ++ prefixes_in (drop i list) ≡ prefixes_in list → after ≡ before ++ prefixes_of c
    → after ++ prefixes_in (drop (i + 1) list) ≡ prefixes_in list
prefixes_next list i c before after at told is_after =
    ap (λ (ps : List PrefixValue). ps ++ prefixes_in (drop (i + 1) list)) is_after
    ∙ append_assoc before (prefixes_of c) (prefixes_in (drop (i + 1) list))
    ∙ ap (λ (l : List Container). before ++ prefixes_in l) (sym (drop_item list i c at)) ∙ told

append_empty : (xs : List PrefixValue) → xs ++ [] ≡ xs
append_empty [] = refl
append_empty (x ∷ xs) = ap (λ (ys : List PrefixValue). x ∷ ys) (append_empty xs)

pub prefixes_all : (list : List Container) (i : ℕ) (before : List PrefixValue) → length list ≤ i
    → before ++ prefixes_in (drop i list) ≡ prefixes_in list → before ≡ prefixes_in list
prefixes_all list i before past told =
    sym (append_empty before) ∙ ap (λ (l : List Container). before ++ prefixes_in l) (sym (drop_past list i past)) ∙ told

-- how many SIDs the last container has, by its prefixes behind none
pub last_tail : (each : Bool) (list : List Container) (c : Container) (ps : List PrefixValue) (n : ℕ) → each ≡ false
    → slice_get list (length list - 1) ≡ Some c → ps ≡ prefixes_of c → n ≡ length ps → n ≡ tail_of each list
last_tail true list c ps n e at are is = absurd (cc)
last_tail false list c ps n e at are is = is ∙ ap length are ∙ sym (last_of_list list c at)
