-- The values of a table, and the table with another value at a prefix.
use Rattle.std.proofs.Common.{◌≡◌, ◌↔◌, ℕ, zero, suc, ◌⊎◌, true, false, ◌==◌, List, [], ◌∷◌, ◌++◌, slice_get, slice_set, Some, None, refl, sym, ap, ◌∙◌, subst, inl, inr}
use Rattle.std.specs.Prelude.{if◌then◌else◌, is_some, IsSome}
use Rattle.std.specs.List.{Contains}
use Rattle.std.proofs.lemmas.Bool.{cases_Bool, both_ways, and_parts, and_from, eqb-true, eq-eqb, false≢true}
use Rattle.std.proofs.lemmas.Option.{none-some, same_Some}
use Rattle.v6_addr.specs.Address.{PrefixValue}
use Rattle.v6_addr.specs.AddressTerms.{IsPrefix}
use Rattle.prefix_table.specs.PrefixTable.{HasPrefix, EachOnce, IsTable, is_one_prefix, value_at, with_value}
use Rattle.prefix_table.proofs.TableLemmas.{contains_none, contains_cases, contains_first, contains_later, same_prefix, has_by}
use Rattle.prefix_table.proofs.IndexLemmas.{place_of, contains_at}

pub one_from : (p q : PrefixValue) → is_one_prefix p q ≡ true → p ≡ q
one_from p q is =
    let parts = and_parts (p.value == q.value) (p.len == q.len) is in
    same_prefix p q (eqb-true p.value q.value parts.0) (eqb-true p.len q.len parts.1)

pub one_to : (p q : PrefixValue) → p ≡ q → is_one_prefix p q ≡ true
one_to p q is =
    and_from _ _ (eq-eqb p.value q.value (ap (λ (r : PrefixValue). r.value) is)) (eq-eqb p.len q.len (ap (λ (r : PrefixValue). r.len) is))

-- two prefixes are one, or differ
pub one_or_other : (p q : PrefixValue) → ((p ≡ q) × (is_one_prefix p q ≡ true)) ⊎ ((p ≡ q → ⊥) × (is_one_prefix p q ≡ false))
one_or_other p q =
    elim (cases_Bool (is_one_prefix p q)) [
      | inl one ↦ inl (one_from p q one, one)
      | inr other ↦ inr (λ is. both_ways _ other (one_to p q is), other)
    ]

module _ {T : Type 0} where
  -- ---- a prefix that isn't there

  not_first : (e : PrefixValue × T) (es : List (PrefixValue × T)) (p : PrefixValue) → ¬ HasPrefix (e ∷ es) p → is_one_prefix e.0 p ≡ false
  not_first e es p none =
      elim (one_or_other e.0 p) [
        | inl one ↦ absurd (none (has_by (e ∷ es) e p (contains_first e es) one.0))
        | inr other ↦ other.1
      ]

  not_later : (e : PrefixValue × T) (es : List (PrefixValue × T)) (p : PrefixValue) → ¬ HasPrefix (e ∷ es) p → ¬ HasPrefix es p
  not_later e es p none has = none (has.0, contains_later e es (p, has.0) has.1)

  pub with_none : (es : List (PrefixValue × T)) (p : PrefixValue) (t : T) → ¬ HasPrefix es p → with_value es p t ≡ es
  with_none [] p t none = refl
  with_none (e ∷ es) p t none = rw (not_first e es p none) (ap (λ fs. e ∷ fs) (with_none es p t (not_later e es p none)))

  pub value_none : (es : List (PrefixValue × T)) (p : PrefixValue) → ¬ HasPrefix es p → value_at es p ≡ None
  value_none [] p none = refl
  value_none (e ∷ es) p none = rw (not_first e es p none) (value_none es p (not_later e es p none))

  pub value_absent : (es : List (PrefixValue × T)) (p q : PrefixValue) → ¬ HasPrefix es p
      → value_at es q ≡ (if is_one_prefix p q then None else value_at es q)
  value_absent es p q none =
      elim (one_or_other p q) [
        | inl one ↦ rw one.1 (value_none es q (subst (λ r. ¬ HasPrefix es r) one.0 none))
        | inr other ↦ rw other.1 refl
      ]

  -- ---- a prefix at its place

  has_at_place : (es : List (PrefixValue × T)) (i : ℕ) (e : PrefixValue × T) (p : PrefixValue) → slice_get es i ≡ Some e → e.0 ≡ p
      → HasPrefix es p
  has_at_place es i e p at is = has_by es e p (contains_at es e i at) is

  -- an entry before that of a prefix has another
  before_other : (x : PrefixValue × T) (es : List (PrefixValue × T)) (p : PrefixValue) → EachOnce (x ∷ es) → HasPrefix es p
      → is_one_prefix x.0 p ≡ false
  before_other x es p once has =
      elim (one_or_other x.0 p) [
        | inl one ↦ absurd (once.0 (subst (HasPrefix es) (sym one.0) has))
        | inr other ↦ other.1
      ]

  first_one : (x e : PrefixValue × T) (p : PrefixValue) → Some x ≡ Some e → e.0 ≡ p → x.0 ≡ p
  first_one x e p same is = ap (λ (f : PrefixValue × T). f.0) (same_Some x e same) ∙ is

  pub value_at_place : (es : List (PrefixValue × T)) (i : ℕ) (e : PrefixValue × T) (p : PrefixValue) → EachOnce es
      → slice_get es i ≡ Some e → e.0 ≡ p → value_at es p ≡ Some e.1
  value_at_place [] i e p once at is = absurd (none-some e at)
  value_at_place (x ∷ es) zero e p once at is =
      rw (one_to x.0 p (first_one x e p at is)) (ap (λ (f : PrefixValue × T). Some f.1) (same_Some x e at))
  value_at_place (x ∷ es) (suc i) e p once at is =
      rw (before_other x es p once (has_at_place es i e p at is)) (value_at_place es i e p once.1 at is)

  pub with_at : (es : List (PrefixValue × T)) (i : ℕ) (e : PrefixValue × T) (p : PrefixValue) (t : T) → EachOnce es
      → slice_get es i ≡ Some e → e.0 ≡ p → slice_set es i (p, t) ≡ with_value es p t
  with_at [] i e p t once at is = absurd (none-some e at)
  with_at (x ∷ es) zero e p t once at is =
      let first = first_one x e p at is in
      rw (one_to x.0 p first) (ap (λ fs. (p, t) ∷ fs) (sym (with_none es p t (λ h. once.0 (subst (HasPrefix es) (sym first) h))))
      ∙ ap (λ q. (q, t) ∷ with_value es p t) (sym first))
  with_at (x ∷ es) (suc i) e p t once at is =
      rw (before_other x es p once (has_at_place es i e p at is)) (ap (λ fs. x ∷ fs) (with_at es i e p t once.1 at is))

  -- ---- another value leaves a table

  -- an entry of the table with another value has the prefix of an entry that was there
  abbrev WasThere : List (PrefixValue × T) → PrefixValue × T → Type 0
  WasThere es e = (f : PrefixValue × T) × Contains es f × (f.0 ≡ e.0)

  was_later : (x : PrefixValue × T) (es : List (PrefixValue × T)) (e : PrefixValue × T) → WasThere es e → WasThere (x ∷ es) e
  was_later x es e was = (was.0, contains_later x es was.0 was.1, was.2)

  was_first : (x y : PrefixValue × T) (es : List (PrefixValue × T)) (e : PrefixValue × T) → x.0 ≡ y.0 → y ≡ e → WasThere (x ∷ es) e
  was_first x y es e same is = (x, contains_first x es, same ∙ ap (λ (f : PrefixValue × T). f.0) is)

  contains_with : (es : List (PrefixValue × T)) (p : PrefixValue) (t : T) (e : PrefixValue × T) → Contains (with_value es p t) e
      → WasThere es e
  contains_with [] p t e c = absurd (contains_none e c)
  contains_with (x ∷ es) p t e c =
      elim (cases_Bool (is_one_prefix x.0 p)) [
        | inl one ↦ elim (contains_cases (x.0, t) (with_value es p t) e (rw one at c)) [
          | inl is ↦ was_first x (x.0, t) es e refl is
          | inr more ↦ was_later x es e (contains_with es p t e more)
        ]
        | inr other ↦ elim (contains_cases x (with_value es p t) e (rw other at c)) [
          | inl is ↦ was_first x x es e refl is
          | inr more ↦ was_later x es e (contains_with es p t e more)
        ]
      ]

  has_with : (es : List (PrefixValue × T)) (p : PrefixValue) (t : T) (q : PrefixValue) → HasPrefix (with_value es p t) q → HasPrefix es q
  has_with es p t q has = let was = contains_with es p t (q, has.0) has.1 in has_by es was.0 q was.1 was.2

  once_with : (es : List (PrefixValue × T)) (p : PrefixValue) (t : T) → EachOnce es → EachOnce (with_value es p t)
  once_with [] p t once = once
  once_with (x ∷ es) p t once =
      elim (cases_Bool (is_one_prefix x.0 p)) [
        | inl one ↦ rw one (λ h. once.0 (has_with es p t x.0 h), once_with es p t once.1)
        | inr other ↦ rw other (λ h. once.0 (has_with es p t x.0 h), once_with es p t once.1)
      ]

  pub is_table_with : (es : List (PrefixValue × T)) (p : PrefixValue) (t : T) → IsTable es → IsTable (with_value es p t)
  is_table_with es p t table = record {
    prefixes = λ e c. let was = contains_with es p t e c in subst IsPrefix was.2 (table.prefixes was.0 was.1);
    once = once_with es p t table.once;
  }

  -- ---- what the edits leave at each prefix

  has_value : (es : List (PrefixValue × T)) (p : PrefixValue) → IsSome (value_at es p) → HasPrefix es p
  has_value [] p some = absurd (false≢true some)
  has_value (x ∷ es) p some =
      elim (one_or_other x.0 p) [
        | inl one ↦ has_by (x ∷ es) x p (contains_first x es) one.0
        | inr other ↦ let h = has_value es p (rw other.1 at some) in (h.0, contains_later x es (p, h.0) h.1)
      ]

  value_first : (x : PrefixValue × T) (es : List (PrefixValue × T)) (p : PrefixValue) → is_one_prefix x.0 p ≡ true
      → value_at (x ∷ es) p ≡ Some x.1
  value_first x es p one = rw one refl

  value_has : (es : List (PrefixValue × T)) (p : PrefixValue) (e : PrefixValue × T) → Contains es e → e.0 ≡ p → IsSome (value_at es p)
  value_has [] p e c is = absurd (contains_none e c)
  value_has (x ∷ es) p e c is =
      elim (one_or_other x.0 p) [
        | inl one ↦ ap is_some (value_first x es p one.1)
        | inr other ↦ elim (contains_cases x es e c) [
          | inl first ↦ absurd (other.0 (ap (λ (f : PrefixValue × T). f.0) first ∙ is))
          | inr later ↦ rw other.1 (value_has es p e later is)
        ]
      ]

  pub there_tells : (es : List (PrefixValue × T)) (p : PrefixValue) → IsSome (value_at es p) ↔ HasPrefix es p
  there_tells es p = (has_value es p, λ has. value_has es p (p, has.0) has.1 refl)

  pub value_tells : (es : List (PrefixValue × T)) (p : PrefixValue) (t : T) → IsTable es → Contains es (p, t) → value_at es p ≡ Some t
  value_tells es p t table c = let at = place_of es (p, t) c in value_at_place es at.0 (p, t) p table.once at.1 refl

  pub value_with : (es : List (PrefixValue × T)) (p q : PrefixValue) (t : T) → HasPrefix es p
      → value_at (with_value es p t) q ≡ (if is_one_prefix p q then Some t else value_at es q)
  value_with [] p q t has = absurd (contains_none (p, has.0) has.1)
  value_with (x ∷ es) p q t has =
      elim (one_or_other x.0 p) [
        | inl here ↦ elim (one_or_other p q) [
          | inl one ↦ let same = one_to x.0 q (here.0 ∙ one.0) in rw (here.1, one.1, same) refl
          | inr other ↦
              let apart : is_one_prefix x.0 q ≡ false = subst (λ r. is_one_prefix r q ≡ false) (sym here.0) other.1 in
              rw (here.1, other.1, apart) (value_with_other es p q t other.0)
        ]
        | inr there ↦ elim (contains_cases x es (p, has.0) has.1) [
          | inl first ↦ absurd (there.0 (ap (λ (f : PrefixValue × T). f.0) first))
          | inr later ↦ elim (one_or_other x.0 q) [
            | inl at_q ↦ elim (one_or_other p q) [
              | inl one ↦ absurd (there.0 (at_q.0 ∙ sym one.0))
              | inr other ↦ rw (there.1, other.1, at_q.1) refl
            ]
            | inr not_q ↦ rw (there.1, not_q.1) (value_with es p q t (has.0, later))
          ]
        ]
      ]
    where
      value_with_other : (fs : List (PrefixValue × T)) (r s : PrefixValue) (u : T) → (r ≡ s → ⊥)
          → value_at (with_value fs r u) s ≡ value_at fs s
      value_with_other [] r s u apart = refl
      value_with_other (y ∷ fs) r s u apart =
          elim (one_or_other y.0 r) [
            | inl here ↦ elim (one_or_other y.0 s) [
              | inl too ↦ absurd (apart (sym here.0 ∙ too.0))
              | inr not ↦ rw (here.1, not.1) (value_with_other fs r s u apart)
            ]
            | inr there ↦ elim (one_or_other y.0 s) [
              | inl too ↦ rw (there.1, too.1) refl
              | inr not ↦ rw (there.1, not.1) (value_with_other fs r s u apart)
            ]
          ]

  pub value_pushed : (es : List (PrefixValue × T)) (p q : PrefixValue) (t : T) → ¬ HasPrefix es p
      → value_at (es ++ (p, t) ∷ []) q ≡ (if is_one_prefix p q then Some t else value_at es q)
  value_pushed [] p q t none = refl
  value_pushed (x ∷ es) p q t none =
      let first = not_first x es p none in
      elim (one_or_other x.0 q) [
        | inl here ↦ elim (one_or_other p q) [
          | inl one ↦ absurd (both_ways _ first (one_to x.0 p (here.0 ∙ sym one.0)))
          | inr other ↦ rw (here.1, other.1) refl
        ]
        | inr there ↦ rw there.1 (value_pushed es p q t (not_later x es p none))
      ]
