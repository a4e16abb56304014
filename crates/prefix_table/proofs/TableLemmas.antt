-- Tables of prefixes: one entry more, and the best entry.
use Rattle.std.proofs.Common.{◌≡◌, ℕ, zero, suc, ◌≤◌, ltb, ◌⊎◌, List, [], ◌∷◌, ◌++◌, Option, Some, None, refl, sym, ap, ◌∙◌, subst, arith, inl, inr}
use Rattle.std.specs.List.{Contains}
use Rattle.std.proofs.lemmas.Bool.{cases_Bool, ltb-true, ltb-false}
use Rattle.std.proofs.lemmas.List.Elements.{Contains-append_left, Contains-push, Contains-push_cases}
use Rattle.v6_addr.specs.Address.{PrefixValue, Holds}
use Rattle.v6_addr.specs.AddressTerms.{IsPrefix}
use Rattle.v6_addr.proofs.PublicLaws.{same_value}
use Rattle.prefix_table.specs.PrefixTable.{HasPrefix, EachOnce, IsTable, IsBest, IsBestMatch, IsBetter}

pub contains_none : {X : Type 0} (x : X) → Contains [] x → ⊥
contains_none x c = omega (arith, c.1)

pub contains_cases : {X : Type 0} (y : X) (ys : List X) (x : X) → Contains (y ∷ ys) x → (y ≡ x) ⊎ Contains ys x
contains_cases y ys x (zero, within, is) = inl is
contains_cases y ys x (suc k, within, is) = inr (k, omega arith, is)

pub contains_first : {X : Type 0} (y : X) (ys : List X) → Contains (y ∷ ys) y
contains_first y ys = (zero, omega arith, refl)

pub contains_later : {X : Type 0} (y : X) (ys : List X) (x : X) → Contains ys x → Contains (y ∷ ys) x
contains_later y ys x c = (suc c.0, omega (arith, c.1), c.2)

pub same_prefix : (p q : PrefixValue) → p.value ≡ q.value → p.len ≡ q.len → p ≡ q
same_prefix p q value len = λ i. record { value = value i; len = len i }

module _ {T : Type 0} where
  -- an entry whose prefix is known by a path
  pub has_by : (xs : List (PrefixValue × T)) (e : PrefixValue × T) (p : PrefixValue) → Contains xs e → e.0 ≡ p → HasPrefix xs p
  has_by xs e p c same = (e.1, subst (λ q. Contains xs (q, e.1)) same c)

  -- ---- one entry more

  each_once_push : (xs : List (PrefixValue × T)) (p : PrefixValue) (t : T) → EachOnce xs → ¬ HasPrefix xs p
      → EachOnce (xs ++ (p, t) ∷ [])
  each_once_push [] p t once new = (λ h. contains_none _ h.1, tt)
  each_once_push (x ∷ xs) p t once new = (
    λ h. elim (Contains-push_cases xs (p, t) (x.0, h.0) h.1) [
      | inl among ↦ once.0 (h.0, among)
      | inr is ↦ new (has_by (x ∷ xs) x p (contains_first x xs) (sym (ap (λ e. e.0) is)))
    ],
    each_once_push xs p t once.1 (λ h. new (h.0, contains_later x xs (p, h.0) h.1)),
  )

  pub is_table_push : (xs : List (PrefixValue × T)) (p : PrefixValue) (t : T) → IsTable xs → IsPrefix p → ¬ HasPrefix xs p
      → IsTable (xs ++ (p, t) ∷ [])
  is_table_push xs p t table is new = record {
    prefixes = λ e c. elim (Contains-push_cases xs (p, t) e c) [
      | inl among ↦ table.prefixes e among
      | inr same ↦ subst (λ f. IsPrefix f.0) same is
    ];
    once = each_once_push xs p t table.once new;
  }

  -- ---- the search for a prefix

  -- ---- the best entry

  pub best_taken : (xs : List (PrefixValue × T)) (a : ℕ) (e : PrefixValue × T) (o : Option (PrefixValue × T)) → IsBestMatch xs a o
      → IsBetter o a e → IsBestMatch (xs ++ e ∷ []) a (Some e)
  best_taken xs a e None none better = record {
    is_there = Contains-push xs e;
    holds = better;
    none_longer = λ other c held. elim (Contains-push_cases xs e other c) [
      | inl among ↦ absurd (none other among held)
      | inr is ↦ subst (λ f. f.0.len ≤ e.0.len) is (omega arith)
    ];
  }
  best_taken xs a e (Some b) best better = record {
    is_there = Contains-push xs e;
    holds = better.0;
    none_longer = λ other c held. elim (Contains-push_cases xs e other c) [
      | inl among ↦ omega (arith, best.none_longer other among held, better.1)
      | inr is ↦ subst (λ f. f.0.len ≤ e.0.len) is (omega arith)
    ];
  }

  no_longer : (a : ℕ) (b e : PrefixValue × T) → ¬ IsBetter (Some b) a e → Holds e.0 a → e.0.len ≤ b.0.len
  no_longer a b e worse held =
      elim (cases_Bool (ltb b.0.len e.0.len)) [
        | inl longer ↦ absurd (worse (held, ltb-true _ _ longer))
        | inr shorter ↦ ltb-false _ _ shorter
      ]

  pub best_kept : (xs : List (PrefixValue × T)) (a : ℕ) (e : PrefixValue × T) (o : Option (PrefixValue × T)) → IsBestMatch xs a o
      → ¬ IsBetter o a e → IsBestMatch (xs ++ e ∷ []) a o
  best_kept xs a e None none worse = λ other c held. elim (Contains-push_cases xs e other c) [
    | inl among ↦ none other among held
    | inr is ↦ worse (subst (λ f. Holds f.0 a) (sym is) held)
  ]
  best_kept xs a e (Some b) best worse = record {
    is_there = Contains-append_left xs (e ∷ []) b best.is_there;
    holds = best.holds;
    none_longer = λ other c held. elim (Contains-push_cases xs e other c) [
      | inl among ↦ best.none_longer other among held
      | inr is ↦ subst (λ f. f.0.len ≤ b.0.len) is (no_longer a b e worse (subst (λ f. Holds f.0 a) (sym is) held))
    ];
  }

  -- ---- the best is one

  same_entry : (xs : List (PrefixValue × T)) (e f : PrefixValue × T) → EachOnce xs → Contains xs e → Contains xs f → e.0 ≡ f.0
      → e ≡ f
  same_entry [] e f once c d same = absurd (contains_none e c)
  same_entry (x ∷ xs) e f once c d same =
      elim (contains_cases x xs e c) [
        | inl is_e ↦ elim (contains_cases x xs f d) [
          | inl is_f ↦ sym is_e ∙ is_f
          | inr later ↦ absurd (once.0 (has_by xs f x.0 later (sym (ap (λ g. g.0) is_e ∙ same))))
        ]
        | inr later_e ↦ elim (contains_cases x xs f d) [
          | inl is_f ↦ absurd (once.0 (has_by xs e x.0 later_e (same ∙ sym (ap (λ g. g.0) is_f))))
          | inr later_f ↦ same_entry xs e f once.1 later_e later_f same
        ]
      ]

  pub one_best : (entries : List (PrefixValue × T)) (a : ℕ) (e f : PrefixValue × T) → IsTable entries → IsBest entries a e
      → IsBest entries a f → e ≡ f
  one_best entries a e f table is_e is_f =
      let len : e.0.len ≡ f.0.len =
      omega (arith, is_e.none_longer f is_f.is_there is_f.holds, is_f.none_longer e is_e.is_there is_e.holds) in
      let value = same_value e.0 f.0 a (table.prefixes e is_e.is_there) (table.prefixes f is_f.is_there) len is_e.holds is_f.holds in
      same_entry entries e f table.once is_e.is_there is_f.is_there (same_prefix e.0 f.0 value len)
