-- The order of lists of numbers is one.
use Rattle.std.proofs.Common.{◌≡◌, ℕ, ◌<◌, ◌≤◌, ◌⊎◌, inl, inr, Bool, true, false, ◌&&◌, ◌==◌, List, [], ◌∷◌, ◌++◌, length, refl, sym, ◌∙◌, arith, eqb-true, subst}
use Rattle.std.specs.Prelude.{nat_lt}
use Rattle.std.proofs.lemmas.Bool.{false≢true, true≢false, or_cases, or_parts, or_left, or_right, and_parts, and_from, and_cases, ltb-true, ltb-false, lt-ltb, eq-eqb, eqb-false, cases_order, false_from_ne_true, le-ltb, or_from, and_right}
use Rattle.list_pack.specs.ListOrder.{lex_before}

-- the first numbers decide, or the rest does
pub head_cases : (x y : ℕ) (xs ys : List ℕ) → lex_before (x ∷ xs) (y ∷ ys) ≡ true → (x < y) ⊎ ((x ≡ y) × (lex_before xs ys ≡ true))
head_cases x y xs ys h =
    elim (or_cases (nat_lt x y) ((x == y) && lex_before xs ys) h) as (λ w. (x < y) ⊎ ((x ≡ y) × (lex_before xs ys ≡ true))) [
      | inl less ↦ inl (ltb-true x y less)
      | inr both ↦ let parts = and_parts (x == y) (lex_before xs ys) both in inr (eqb-true x y parts.0, parts.1)
    ]

pub head_less : (x y : ℕ) (xs ys : List ℕ) → x < y → lex_before (x ∷ xs) (y ∷ ys) ≡ true
head_less x y xs ys h = or_left (nat_lt x y) ((x == y) && lex_before xs ys) (lt-ltb x y h)

pub head_same : (x y : ℕ) (xs ys : List ℕ) → x ≡ y → lex_before xs ys ≡ true → lex_before (x ∷ xs) (y ∷ ys) ≡ true
head_same x y xs ys e h = or_right (nat_lt x y) ((x == y) && lex_before xs ys) (and_from (x == y) (lex_before xs ys) (eq-eqb x y e) h)

pub head_not : (x y : ℕ) (xs ys : List ℕ) → lex_before (x ∷ xs) (y ∷ ys) ≡ false → (y < x) ⊎ ((x ≡ y) × (lex_before xs ys ≡ false))
head_not x y xs ys h =
    let parts = or_parts (nat_lt x y) ((x == y) && lex_before xs ys) h in
    let above : y ≤ x = ltb-false x y parts.0 in
    elim (and_cases (x == y) (lex_before xs ys) parts.1) as (λ w. (y < x) ⊎ ((x ≡ y) × (lex_before xs ys ≡ false))) [
      | inl differ ↦ inl (less above (eqb-false x y differ))
      | inr rest ↦ by above rest
    ]
  where
    less : y ≤ x → (x ≡ y → ⊥) → y < x
    less h ne =
        elim (cases_order x y) as (λ w. y < x) [
          | inl e ↦ absurd (ne e)
          | inr o ↦ elim o as (λ w. y < x) [ inl below ↦ absurd (omega (arith, h, below)) | inr over ↦ over ]
        ]

    by : y ≤ x → lex_before xs ys ≡ false → (y < x) ⊎ ((x ≡ y) × (lex_before xs ys ≡ false))
    by h r =
        elim (cases_order x y) as (λ w. (y < x) ⊎ ((x ≡ y) × (lex_before xs ys ≡ false))) [
          | inl e ↦ inr (e, r)
          | inr o ↦
              elim o as (λ w. (y < x) ⊎ ((x ≡ y) × (lex_before xs ys ≡ false))) [
                | inl below ↦ absurd (omega (arith, h, below))
                | inr over ↦ inl over
              ]
        ]

-- what is before a list is before each that is not before it
pub lex_weak : (xs ys zs : List ℕ) → lex_before xs ys ≡ true → lex_before zs ys ≡ false → lex_before xs zs ≡ true
lex_weak [] [] zs h k = absurd (false≢true h)
lex_weak [] (y ∷ ys) [] h k = absurd (true≢false k)
lex_weak [] (y ∷ ys) (z ∷ zs) h k = refl
lex_weak (x ∷ xs) [] zs h k = absurd (false≢true h)
lex_weak (x ∷ xs) (y ∷ ys) [] h k = absurd (true≢false k)
lex_weak (x ∷ xs) (y ∷ ys) (z ∷ zs) h k =
    elim (head_cases x y xs ys h) as (λ w. lex_before (x ∷ xs) (z ∷ zs) ≡ true) [
      | inl less ↦
          elim (head_not z y zs ys k) as (λ w. lex_before (x ∷ xs) (z ∷ zs) ≡ true) [
            | inl over ↦ head_less x z xs zs (omega (arith, less, over))
            | inr same ↦ head_less x z xs zs (omega (arith, less, same.0))
          ]
      | inr same ↦
          elim (head_not z y zs ys k) as (λ w. lex_before (x ∷ xs) (z ∷ zs) ≡ true) [
            | inl over ↦ head_less x z xs zs (omega (arith, same.0, over))
            | inr also ↦ head_same x z xs zs (same.0 ∙ sym also.0) (lex_weak xs ys zs same.1 also.1)
          ]
    ]

not_before : (x : ℕ) (xs : List ℕ) → lex_before (x ∷ xs) (x ∷ xs) ≡ true → lex_before xs xs ≡ false → ⊥
not_before x xs e f =
    elim (head_cases x x xs xs e) as (λ w. ⊥) [
      | inl less ↦ absurd (omega (arith, less))
      | inr same ↦ false≢true (sym f ∙ same.1)
    ]

-- a list is not before itself
pub lex_itself : (xs : List ℕ) → lex_before xs xs ≡ false
lex_itself [] = refl
lex_itself (x ∷ xs) = false_from_ne_true (lex_before (x ∷ xs) (x ∷ xs)) (λ e. not_before x xs e (lex_itself xs))

-- of two lists one is not before the other
both_before : (xs ys : List ℕ) → lex_before xs ys ≡ true → lex_before ys xs ≡ true → ⊥
both_before [] [] h k = false≢true h
both_before [] (y ∷ ys) h k = false≢true k
both_before (x ∷ xs) [] h k = false≢true h
both_before (x ∷ xs) (y ∷ ys) h k =
    elim (head_cases x y xs ys h) as (λ w. ⊥) [
      | inl less ↦
          elim (head_cases y x ys xs k) as (λ w. ⊥) [
            | inl also ↦ absurd (omega (arith, less, also))
            | inr same ↦ absurd (omega (arith, less, same.0))
          ]
      | inr same ↦
          elim (head_cases y x ys xs k) as (λ w. ⊥) [
            | inl less ↦ absurd (omega (arith, less, same.0))
            | inr also ↦ both_before xs ys same.1 also.1
          ]
    ]

pub lex_not_both : (xs ys : List ℕ) → lex_before xs ys ≡ true → lex_before ys xs ≡ false
lex_not_both xs ys h = false_from_ne_true (lex_before ys xs) (both_before xs ys h)

pub lex_trans : (xs ys zs : List ℕ) → lex_before xs ys ≡ true → lex_before ys zs ≡ true → lex_before xs zs ≡ true
lex_trans xs ys zs h k = lex_weak xs ys zs h (lex_not_both ys zs k)

-- of two lists of one length the order is that of longer ones that begin with them
pub lex_longer : (xs ys us ws : List ℕ) → length xs ≡ length ys → lex_before xs ys ≡ true → lex_before (xs ++ us) (ys ++ ws) ≡ true
lex_longer [] [] us ws e h = absurd (false≢true h)
lex_longer [] (y ∷ ys) us ws e h = absurd (omega (arith, e))
lex_longer (x ∷ xs) [] us ws e h = absurd (false≢true h)
lex_longer (x ∷ xs) (y ∷ ys) us ws e h =
    elim (head_cases x y xs ys h) as (λ w. lex_before (x ∷ (xs ++ us)) (y ∷ (ys ++ ws)) ≡ true) [
      | inl less ↦ head_less x y (xs ++ us) (ys ++ ws) less
      | inr same ↦ head_same x y (xs ++ us) (ys ++ ws) same.0 (lex_longer xs ys us ws (omega (arith, e)) same.1)
    ]

-- where one list is not before another, what is before the one is before the other too, and what is not before the other is not before it
pub lex_lower : (xs ys zs : List ℕ) → lex_before ys xs ≡ false → lex_before ys zs ≡ true → lex_before xs zs ≡ true
lex_lower xs ys zs h k = by (lex_before xs zs) refl
  where
    by : (b : Bool) → lex_before xs zs ≡ b → lex_before xs zs ≡ true
    by true e = e
    by false e = absurd (false≢true (sym h ∙ lex_weak ys zs xs k e))

pub lex_higher : (xs ys zs : List ℕ) → lex_before ys xs ≡ false → lex_before xs zs ≡ false → lex_before ys zs ≡ false
lex_higher xs ys zs h k = by (lex_before ys zs) refl
  where
    by : (b : Bool) → lex_before ys zs ≡ b → lex_before ys zs ≡ false
    by false e = e
    by true e = absurd (false≢true (sym k ∙ lex_lower xs ys zs h e))

-- of two lists that differ one is before the other
pub lex_same : (xs ys : List ℕ) → lex_before xs ys ≡ false → lex_before ys xs ≡ false → xs ≡ ys
lex_same [] [] h k = refl
lex_same [] (y ∷ ys) h k = absurd (true≢false h)
lex_same (x ∷ xs) [] h k = absurd (true≢false k)
lex_same (x ∷ xs) (y ∷ ys) h k =
    elim (head_not x y xs ys h) as (λ w. x ∷ xs ≡ y ∷ ys) [
      | inl over ↦
          elim (head_not y x ys xs k) as (λ w. x ∷ xs ≡ y ∷ ys) [
            | inl also ↦ absurd (omega (arith, over, also))
            | inr same ↦ absurd (omega (arith, over, same.0))
          ]
      | inr same ↦
          elim (head_not y x ys xs k) as (λ w. x ∷ xs ≡ y ∷ ys) [
            | inl also ↦ absurd (omega (arith, also, same.0))
            | inr also ↦ let rest = lex_same xs ys same.1 also.1 in let e = same.0 in cc
          ]
    ]

-- after one beginning the order is that of what follows
pub lex_after : (xs ys us ws : List ℕ) → xs ≡ ys → lex_before us ws ≡ false → lex_before (xs ++ us) (ys ++ ws) ≡ false
lex_after xs ys us ws e h = subst (λ (zs : List ℕ). lex_before (xs ++ us) (zs ++ ws) ≡ false) e (after xs)
  where
    after : (xs : List ℕ) → lex_before (xs ++ us) (xs ++ ws) ≡ false
    after [] = h
    after (x ∷ xs) =
        or_from (nat_lt x x) ((x == x) && lex_before (xs ++ us) (xs ++ ws)) (le-ltb x x (omega arith))
        (and_right (x == x) (lex_before (xs ++ us) (xs ++ ws)) (after xs))
