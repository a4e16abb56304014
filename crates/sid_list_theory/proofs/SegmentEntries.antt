-- The entries of a segment list at a place, and the entry that is read there.
use Rattle.std.proofs.Common.{◌≡◌, ℕ, suc, ◌+◌, ◌≤◌, ◌==◌, ◌&&◌, List, [], ◌∷◌, ◌++◌, length, map, reverse, refl, ◌∙◌, ap, arith, length-append}
use Rattle.std.proofs.lemmas.Bool.{ne_eqb}
use Rattle.std.proofs.lemmas.List.{append_assoc, reverse-append, length-reverse, length-map}
use Rattle.sid_list_spec.specs.SegmentLists.{ListSid, Container, prefix_of, value_of, values_of}
use Rattle.sid_list_theory.specs.ListPlaces.{InFull, InPacked, may_lack}

-- the last container in front of those that are written stands after them
pub listed_behind : (entries rest : List ℕ) (c : Container) (cs : List Container) → entries ≡ reverse (values_of (c ∷ cs)) ++ rest
    → entries ≡ reverse (values_of cs) ++ (value_of c ∷ rest)
listed_behind entries rest c cs e =
    e
    ∙ ap (λ xs. xs ++ rest) (reverse-append (value_of c ∷ []) (values_of cs))
    ∙ append_assoc (reverse (values_of cs)) (value_of c ∷ []) rest

pub length_behind : (cs : List Container) → length (reverse (values_of cs)) ≡ length cs
length_behind cs = length-reverse (values_of cs) ∙ length-map cs value_of

-- an entry and those in front of it are in the list
pub long_enough : (entries rest : List ℕ) (v : ℕ) (cs : List Container) → entries ≡ reverse (values_of cs) ++ (v ∷ rest)
    → length cs + 1 ≤ length entries
long_enough entries rest v cs e =
    let long = ap length e ∙ length-append (reverse (values_of cs)) (v ∷ rest) in
    let behind = length_behind cs in
    omega arith

-- ---- no segment is left where the header may lack

pub left_one : (f : ListSid) (fs : List ListSid) (cs : List Container) → (suc (length cs) == 1) ≡ may_lack (InFull f fs cs)
left_one f fs [] = refl
left_one f fs (c ∷ cs) = ne_eqb (suc (suc (length cs))) 1 (omega arith)

pub left_none : (f : ListSid) (fs : List ListSid) (cs : List Container) → (length cs == 0) ≡ may_lack (InFull f fs cs)
left_none f fs [] = refl
left_none f fs (c ∷ cs) = ne_eqb (suc (length cs)) 0 (omega arith)

pub left_packed : (bs : List ListSid) (f : ListSid) (fs : List ListSid) (cs : List Container)
    → ((length cs == 0) && (length (map prefix_of fs) == 0)) ≡ may_lack (InPacked bs f fs cs)
left_packed bs f [] [] = refl
left_packed bs f [] (c ∷ cs) = rw (ne_eqb (suc (length cs)) 0 (omega arith)) refl
left_packed bs f (g ∷ gs) [] = ne_eqb (suc (length (map prefix_of gs))) 0 (omega arith)
left_packed bs f (g ∷ gs) (c ∷ cs) = rw (ne_eqb (suc (length cs)) 0 (omega arith)) refl
