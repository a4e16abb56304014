-- The entry at a prefix's place, and a whole table after its value is replaced.
use Rattle.std.proofs.Common.{◌≡◌, ℕ, zero, suc, ◌<◌, List, [], ◌∷◌, length, slice_get, slice_set, Some, None, refl, sym, ap, ◌∙◌, subst}
use Rattle.std.proofs.lemmas.Option.{none-some, same_Some, slice_get_within}
use Rattle.v6_addr.specs.Address.{PrefixValue}
use Rattle.v6_addr.specs.AddressTerms.{IsPrefix}
use Rattle.prefix_table.specs.declared.index.Index.{Index}
use Rattle.prefix_table.specs.PrefixTable.{HasPrefix, IsTable, value_at, with_value}
use Rattle.prefix_table.specs.Index.{key_of, place_at, IsWhole}
use Rattle.prefix_table.proofs.IndexLemmas.{place_of, contains_at, one_prefix}
use Rattle.prefix_table.proofs.TableEditLemmas.{value_at_place, with_at, is_table_with}

module _ {T : Type 0} (es : List (PrefixValue × T)) (old : Index) (p : PrefixValue) where
  -- the entry at a prefix's place has the prefix
  at_place : (i : ℕ) → IsWhole es old → IsPrefix p → place_at old (key_of p) ≡ Some i
      → (e : PrefixValue × T) × (slice_get es i ≡ Some e) × (e.0 ≡ p)
  at_place i whole is_prefix at =
      let it = whole.places.leads (key_of p) i at in
      (it.0, it.1, one_prefix it.0.0 p (whole.table.prefixes it.0 (contains_at es it.0 i it.1)) is_prefix it.2)

  pub place_is_within : (i : ℕ) → IsWhole es old → IsPrefix p → place_at old (key_of p) ≡ Some i → i < length es
  place_is_within i whole is_prefix at = let it = at_place i whole is_prefix at in slice_get_within es i it.0 it.1

  pub prefix_there : (at : ℕ) (e : PrefixValue × T) → IsWhole es old → IsPrefix p → place_at old (key_of p) ≡ Some at
      → slice_get es at ≡ Some e → e.0 ≡ p
  prefix_there at e whole is_prefix is_at there =
      let it = at_place at whole is_prefix is_at in
      ap (λ (f : PrefixValue × T). f.0) (same_Some e it.0 (sym there ∙ it.1)) ∙ it.2

  pub value_there : (at : ℕ) (e : PrefixValue × T) → IsWhole es old → IsPrefix p → place_at old (key_of p) ≡ Some at
      → slice_get es at ≡ Some e → value_at es p ≡ Some e.1
  value_there at e whole is_prefix is_at there =
      value_at_place es at e p whole.table.once there (prefix_there at e whole is_prefix is_at there)

  pub with_replaced : (i : ℕ) (t : T) → IsWhole es old → IsPrefix p → place_at old (key_of p) ≡ Some i
      → slice_set es i (p, t) ≡ with_value es p t
  with_replaced i t whole is_prefix at =
      let it = at_place i whole is_prefix at in with_at es i it.0 p t whole.table.once it.1 it.2

  -- ---- a value is replaced

  -- the prefixes stand where they stood
  set_get : (xs : List (PrefixValue × T)) (i j : ℕ) (x f e : PrefixValue × T) → slice_get xs i ≡ Some f → f.0 ≡ x.0
      → slice_get (slice_set xs i x) j ≡ Some e → (g : PrefixValue × T) × (slice_get xs j ≡ Some g) × (g.0 ≡ e.0)
  set_get [] i j x f e at same h = absurd (none-some f at)
  set_get (y ∷ xs) zero zero x f e at same h =
      (y, refl, ap (λ (g : PrefixValue × T). g.0) (same_Some y f at) ∙ (same ∙ ap (λ (g : PrefixValue × T). g.0) (same_Some x e h)))
  set_get (y ∷ xs) zero (suc j) x f e at same h = (e, h, refl)
  set_get (y ∷ xs) (suc i) zero x f e at same h = (e, h, refl)
  set_get (y ∷ xs) (suc i) (suc j) x f e at same h = set_get xs i j x f e at same h

  get_set : (xs : List (PrefixValue × T)) (i j : ℕ) (x f g : PrefixValue × T) → slice_get xs i ≡ Some f → f.0 ≡ x.0
      → slice_get xs j ≡ Some g → (e : PrefixValue × T) × (slice_get (slice_set xs i x) j ≡ Some e) × (e.0 ≡ g.0)
  get_set [] i j x f g at same h = absurd (none-some f at)
  get_set (y ∷ xs) zero zero x f g at same h =
      (x, refl, sym same ∙ ap (λ (e : PrefixValue × T). e.0) (sym (same_Some y f at) ∙ same_Some y g h))
  get_set (y ∷ xs) zero (suc j) x f g at same h = (g, h, refl)
  get_set (y ∷ xs) (suc i) zero x f g at same h = (g, h, refl)
  get_set (y ∷ xs) (suc i) (suc j) x f g at same h = get_set xs i j x f g at same h

  pub whole_replaced : (now : List (PrefixValue × T)) (at : ℕ) (t : T) → IsWhole es old → IsPrefix p → place_at old (key_of p) ≡ Some at
      → now ≡ slice_set es at (p, t) → IsWhole now old
  whole_replaced now at t whole is_prefix is_at is_now =
      let it = at_place at whole is_prefix is_at in
      subst (λ xs. IsWhole xs old) (sym is_now)
      (record {
        table = subst IsTable (sym (with_replaced at t whole is_prefix is_at)) (is_table_with es p t whole.table);
        lengths = whole.lengths;
        places = record {
          each = λ i e h. let was = set_get es at i (p, t) it.0 e it.1 it.2 h in
              subst (λ q. place_at old (key_of q) ≡ Some i) was.2 (whole.places.each i was.0 was.1);
          leads = λ k i is. let found = whole.places.leads k i is in
              let now_there = get_set es at i (p, t) it.0 found.0 it.1 it.2 found.1 in
              (now_there.0, now_there.1, ap key_of now_there.2 ∙ found.2);
        };
      })

  pub none_there : IsWhole es old → place_at old (key_of p) ≡ None → ¬ HasPrefix es p
  none_there whole none has =
      let at = place_of es (p, has.0) has.1 in none-some at.0 (sym none ∙ whole.places.each at.0 (p, has.0) at.1)
