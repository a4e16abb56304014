-- Links of a set, and steps that are left behind events.
use Rattle.std.proofs.Common.{◌≡◌, ℕ, zero, suc, ◌≤◌, Bool, true, List, [], ◌∷◌, ◌++◌, length, Some, refl, sym, subst, arith}
use Rattle.std.specs.List.{list_all, AllByRecursion}
use Rattle.std.proofs.lemmas.Bool.{and_parts, and_from}
use Rattle.std.proofs.lemmas.Option.{same_Some}
use Rattle.binding_spec.specs.Machines.{Events, advance, left_by}
use Rattle.tunnel_walks_theory.specs.MachinesTerms.{link_at}
use Rattle.tunnel_walks_theory.proofs.TunnelOptions.{then_parts, then_from, if_parts}

-- ---- links of a set

-- what all links of a set pass, the one at each place does
pub link_passes : {L : Type 0} (p : L → Bool) (first : L) (rest : List L) (n : ℕ) → list_all p (first ∷ rest) ≡ true
    → p (link_at first rest n) ≡ true
link_passes p first rest zero h = (and_parts _ _ h).0
link_passes p first [] (suc n) h = (and_parts _ _ h).0
link_passes p first (next ∷ rest) (suc n) h = link_passes p next rest n (and_parts _ _ h).1

-- and the other way round
pub links_pass : {L : Type 0} (p : L → Bool) (first : L) (rest : List L) → ((n : ℕ) → n ≤ length rest → p (link_at first rest n) ≡ true)
    → list_all p (first ∷ rest) ≡ true
links_pass p first [] h = and_from _ _ (h 0 (omega arith)) refl
links_pass p first (next ∷ rest) h = and_from _ _ (h 0 (omega arith)) (links_pass p next rest (λ n few. h (suc n) (omega arith)))

-- ---- steps and events

module _ {L E T : Type 0} (events : Events L E T) where
  pub left_parts : (told more : List E) (ts us : List T) → left_by events ts (told ++ more) ≡ Some us
      → (vs : List T) × (left_by events ts told ≡ Some vs) × (left_by events vs more ≡ Some us)
  left_parts [] more ts us h = (ts, refl, h)
  left_parts (e ∷ es) more ts us h =
      let first = then_parts (λ vs. left_by events vs (es ++ more)) (advance events ts e) us h in
      let rest = left_parts es more first.0 us first.2 in
      (rest.0, then_from (λ vs. left_by events vs es) first.1 rest.1, rest.2)

  pub left_from : (told more : List E) (ts vs us : List T) → left_by events ts told ≡ Some vs → left_by events vs more ≡ Some us
      → left_by events ts (told ++ more) ≡ Some us
  left_from [] more ts vs us h k = subst (λ ws. left_by events ws more ≡ Some us) (sym (same_Some _ _ h)) k
  left_from (e ∷ es) more ts vs us h k =
      let first = then_parts (λ ws. left_by events ws es) (advance events ts e) vs h in
      then_from (λ ws. left_by events ws (es ++ more)) first.1 (left_from es more first.0 vs us first.2 k)

  advance_short : (ts us : List T) (e : E) → advance events ts e ≡ Some us → length us ≤ length ts
  advance_short [] us e h = cc
  advance_short (t ∷ ts) us e h =
      let same : ts ≡ us = same_Some _ _ (if_parts (events.meets t e) (Some ts) us h).1 in
      subst (λ ws. length ws ≤ suc (length ts)) same (omega arith)

  pub left_short : (told : List E) (ts us : List T) → left_by events ts told ≡ Some us → length us ≤ length ts
  left_short [] ts us h = subst (λ ws. length ws ≤ length ts) (same_Some _ _ h) (omega arith)
  left_short (e ∷ es) ts us h =
      let first = then_parts (λ ws. left_by events ws es) (advance events ts e) us h in
      let a : length first.0 ≤ length ts = advance_short ts first.0 e first.1 in
      let b : length us ≤ length first.0 = left_short es first.0 us first.2 in
      omega (arith, a, b)

  -- what holds of each step holds of those that are left
  advance_all : (P : T → Type 0) (ts us : List T) (e : E) → advance events ts e ≡ Some us → AllByRecursion P ts → AllByRecursion P us
  advance_all P [] us e h all = cc
  advance_all P (t ∷ ts) us e h all =
      subst (λ ws. AllByRecursion P ws) (same_Some _ _ (if_parts (events.meets t e) (Some ts) us h).1) all.1

  pub left_all : (P : T → Type 0) (told : List E) (ts us : List T) → left_by events ts told ≡ Some us → AllByRecursion P ts
      → AllByRecursion P us
  left_all P [] ts us h all = subst (λ ws. AllByRecursion P ws) (same_Some _ _ h) all
  left_all P (e ∷ es) ts us h all =
      let first = then_parts (λ ws. left_by events ws es) (advance events ts e) us h in
      left_all P es first.0 us first.2 (advance_all P ts first.0 e first.1 all)
