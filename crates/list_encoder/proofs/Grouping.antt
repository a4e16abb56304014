-- The edges within a position by the cell that they lead to: one more, and all.
use Rattle.std.proofs.Common.{◌≡◌, ℕ, zero, suc, ◌+◌, ◌-◌, ◌<◌, ◌≤◌, inl, inr, List, [], ◌∷◌, ◌++◌, length, set, take, Some, slice_get, Contains, Vec, Global, refl, sym, ◌∙◌, ap, subst, arith, length-append}
use Rattle.std.proofs.lemmas.Bool.{cases_eq}
use Rattle.std.proofs.lemmas.List.{length-set, take_all, take-append-le}
use Rattle.std.proofs.lemmas.List.Elements.{Contains-append_left, Contains-push, Contains-push_cases}
use Rattle.std.proofs.lemmas.Option.{none-some}
use Rattle.list_encoder.specs.declared.cell_table.CellEdge.{CellEdge}
use Rattle.list_encoder.specs.Grouped.{Groups, IsIn, AreEmpty, PutsEdge, PutsEdges, AreGrouped}
use Rattle.list_encoder.proofs.SearchCelling.{some_same, append_cases}

pub take_front : {X : Type 0} (xs ys : List X) (n : ℕ) → n ≡ length xs → take n (xs ++ ys) ≡ xs
take_front xs ys n same = let le : n ≤ length xs = omega arith in rw take-append-le (take_all n xs (omega arith))

get_set_same : {X : Type 0} (xs : List X) (i : ℕ) (x : X) → i < length xs → slice_get (set xs i x) i ≡ Some x
get_set_same [] i x h = absurd (omega arith)
get_set_same (y ∷ ys) zero x h = refl
get_set_same (y ∷ ys) (suc i) x h = get_set_same ys i x (omega arith)

get_set_other : {X : Type 0} (xs : List X) (i j : ℕ) (x : X) → ¬ (j ≡ i) → slice_get (set xs i x) j ≡ slice_get xs j
get_set_other [] i j x h = refl
get_set_other (y ∷ ys) zero zero x h = absurd (h refl)
get_set_other (y ∷ ys) zero (suc j) x h = refl
get_set_other (y ∷ ys) (suc i) zero x h = refl
get_set_other (y ∷ ys) (suc i) (suc j) x h = get_set_other ys i j x (λ e. h (ap suc e))

pub puts_one : (groups : Groups) (edge : CellEdge) (to : ℕ) (group more : Vec CellEdge Global) → edge.to ≡ Some to → to < length groups
    → slice_get groups to ≡ Some group → more.items ≡ group.items ++ edge ∷ [] → PutsEdge groups (set groups to more) edge
puts_one groups edge to group more leads within here items = record {
  long = length-set groups to more;
  kept = λ j other is. elim (cases_eq j to) [
    | inl same ↦
        let one : is.0 ≡ group = some_same is.0 group (sym is.1 ∙ ap (slice_get groups) same ∙ here) in
        let among : Contains group.items other = subst (λ (g : Vec CellEdge Global). Contains g.items other) one is.2 in (
          more,
          ap (slice_get (set groups to more)) same ∙ get_set_same groups to more within,
          subst (λ (xs : List CellEdge). Contains xs other) (sym items) (Contains-append_left group.items (edge ∷ []) other among),
        )
    | inr apart ↦ (is.0, get_set_other groups to j more apart ∙ is.1, is.2)
  ];
  put = λ j e h.
      let same : j ≡ to = some_same j to (sym e ∙ leads) in (
        more,
        ap (slice_get (set groups to more)) same ∙ get_set_same groups to more within,
        subst (λ (xs : List CellEdge). Contains xs edge) (sym items) (Contains-push group.items edge),
      );
  only = λ j other is. elim (cases_eq j to) [
    | inl same ↦
        let one : is.0 ≡ more = some_same is.0 more (sym is.1 ∙ ap (slice_get (set groups to more)) same
        ∙ get_set_same groups to more within) in
        let among : Contains (group.items ++ edge ∷ []) other =
        subst (λ (xs : List CellEdge). Contains xs other) items (subst (λ (g : Vec CellEdge Global). Contains g.items other) one is.2) in
        elim (Contains-push_cases group.items edge other among) [
          | inl old ↦ inl (group, ap (slice_get groups) same ∙ here, old)
          | inr new ↦ inr (new, leads ∙ ap Some (sym same))
        ]
    | inr apart ↦ inl (is.0, sym (get_set_other groups to j more apart) ∙ is.1, is.2)
  ];
}

contains_none : (edge : CellEdge) → Contains {X = CellEdge} [] edge → ⊥
contains_none edge c = omega (arith, c.1)

pub puts_more : (g0 g g1 : Groups) (edges : List CellEdge) (edge : CellEdge) → PutsEdges g0 edges g → PutsEdge g g1 edge
    → PutsEdges g0 (edges ++ edge ∷ []) g1
puts_more g0 g g1 edges edge so more = record {
  long = more.long ∙ so.long;
  put = λ to other among e h. elim (Contains-push_cases edges edge other among) [
    | inl old ↦ more.kept to other (so.put to other old e h)
    | inr new ↦ let long = so.long in subst (IsIn g1 to) new (more.put to (ap (λ (l : CellEdge). l.to) new ∙ e) (omega (arith, h, long)))
  ];
  only = λ to other is. elim (more.only to other is) [
    | inl was ↦ elim (so.only to other was) [
      | inl first ↦ inl first
      | inr listed ↦ inr (Contains-append_left edges (edge ∷ []) other listed.0, listed.1)
    ]
    | inr new ↦ inr (
      subst (λ (l : CellEdge). Contains (edges ++ edge ∷ []) l) new.0 (Contains-push edges edge),
      sym (ap (λ (l : CellEdge). l.to) new.0) ∙ new.1,
    )
  ];
}

pub empty_more : (n : ℕ) (groups : Groups) (group : Vec CellEdge Global) → group.items ≡ [] → AreEmpty n groups
    → AreEmpty (n + 1) (groups ++ group ∷ [])
empty_more n groups group none are = (
  long_more groups group n are.0,
  λ to edge is. elim (append_cases groups (group ∷ []) to is.0 is.1) [
    | inl old ↦ are.1 to edge (is.0, old.1, is.2)
    | inr new ↦ last (to - length groups) is.0 edge new.1 is.2
  ],
)
  where
    long_more : (xs : Groups) (x : Vec CellEdge Global) (n : ℕ) → length xs ≡ n → length (xs ++ x ∷ []) ≡ n + 1
    long_more xs x n h = omega (arith, length-append xs (x ∷ []), h)

    last : (k : ℕ) (g : Vec CellEdge Global) (edge : CellEdge) → slice_get (group ∷ []) k ≡ Some g → Contains g.items edge → ⊥
    last zero g edge e c =
        let one : group ≡ g = some_same group g e in
        contains_none edge (subst (λ (xs : List CellEdge). Contains xs edge) (ap (λ (x : Vec CellEdge Global). x.items) (sym one)
        ∙ none) c)
    last (suc k) g edge e c = none-some g e

pub are_grouped : (g0 g : Groups) (edges : List CellEdge) (count : ℕ) → AreEmpty count g0 → PutsEdges g0 edges g
    → AreGrouped edges count g
are_grouped g0 g edges count empty puts = record {
  long = puts.long ∙ empty.0;
  each = λ to edge among e h. let long = empty.0 in puts.put to edge among e (omega (arith, h, long));
  only = λ to edge is. elim (puts.only to edge is) [
    | inl was ↦ absurd (empty.1 to edge was)
    | inr listed ↦ listed
  ];
}
