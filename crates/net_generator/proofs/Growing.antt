-- Texts that grow by one table after another
use Rattle.std.proofs.Common.{◌≡◌, ℕ, suc, ◌+◌, ◌-◌, ◌<◌, ◌≤◌, List, ◌++◌, flat_map, sym, ap, ◌∙◌, arith, append_assoc, append-nil}
use Rattle.std.specs.List.{range_with_len}
use Rattle.net_generator.specs.GeneratedWords.{from_to}

-- the first of the tables that are left is written
pub written : (f : ℕ → List ℕ) (i last : ℕ) (now new all : List ℕ) → i ≤ last → new ≡ now ++ f i
    → now ++ flat_map f (from_to i last) ≡ all → new ++ flat_map f (from_to (i + 1) last) ≡ all
unfolding from_to
written f i last now new all more added so_far =
    let rest = flat_map f (range_with_len (i + 1) (last + 1 - (i + 1))) in
    let left : last + 1 - i ≡ suc (last + 1 - (i + 1)) = omega arith in
    ap (λ xs. xs ++ rest) added
    ∙ append_assoc now (f i) rest
    ∙ ap (λ k. now ++ flat_map f (range_with_len i k)) (sym left)
    ∙ so_far

-- no table is left
pub ended : (f : ℕ → List ℕ) (i last : ℕ) (now all : List ℕ) → last < i → now ++ flat_map f (from_to i last) ≡ all → now ≡ all
unfolding from_to
ended f i last now all over so_far =
    let none : last + 1 - i ≡ 0 = omega arith in
    sym (append-nil now) ∙ ap (λ k. now ++ flat_map f (range_with_len i k)) (sym none) ∙ so_far

-- the last table is written
pub finished : (f : ℕ → List ℕ) (i last : ℕ) (now new all : List ℕ) → i ≤ last → last ≤ i → new ≡ now ++ f i
    → now ++ flat_map f (from_to i last) ≡ all → new ≡ all
finished f i last now new all more over added so_far =
    ended f (i + 1) last new all (omega arith) (written f i last now new all more added so_far)
