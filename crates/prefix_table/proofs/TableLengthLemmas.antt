-- The lengths of keys, falling, with one more.
use Rattle.std.proofs.Common.{◌≡◌, ℕ, ◌+◌, ◌-◌, ◌<◌, ◌≤◌, ◌⊎◌, List, [], length, get_or, sym, ◌∙◌, subst, arith, inl, inr}
use Rattle.std.specs.List.{insert}
use Rattle.std.proofs.lemmas.Bool.{cases_lt, cases_eq}
use Rattle.std.proofs.lemmas.List.Edits.{length-insert, get_or-insert_at, get_or-insert_below, get_or-insert_above}
use Rattle.prefix_table.specs.Index.{AreFalling, Keeps}

module _ (ls : List ℕ) (at n : ℕ) (within : at ≤ length ls) where
  -- where an element stands in the list with one more
  inserted : (i : ℕ) → i < length (insert ls at n) → ((i < at) × (get_or (insert ls at n) i 0 ≡ get_or ls i 0))
      ⊎ (((i ≡ at) × (get_or (insert ls at n) i 0 ≡ n))
      ⊎ ((j : ℕ) × (i ≡ j + 1) × (at ≤ j) × (j < length ls) × (get_or (insert ls at n) i 0 ≡ get_or ls j 0)))
  inserted i h =
      elim (cases_lt i at) [
        | inl before ↦ inl (before, get_or-insert_below ls at n 0 i before within)
        | inr past ↦ elim (cases_eq i at) [
          | inl here ↦ inr (inl (here, subst (λ k. get_or (insert ls at n) k 0 ≡ n) (sym here) (get_or-insert_at ls at n 0 within)))
          | inr other ↦
              let j : ℕ = i - 1 in
              let next : i ≡ j + 1 = omega arith in
              let long = length-insert ls at n within in
              let later : at ≤ j = omega arith in
              inr (inr (
                j,
                next,
                later,
                omega (arith, long, h),
                subst (λ k. get_or (insert ls at n) k 0 ≡ get_or ls j 0) (sym next)
                    (get_or-insert_above ls at n 0 j later within),
              ))
        ]
      ]

  module _ (falling : AreFalling ls) (above : (k : ℕ) → k < at → n < get_or ls k 0)
      (below : (k : ℕ) → at ≤ k → k < length ls → get_or ls k 0 < n) where
    falls_with : (i j : ℕ) → i < j → j < length (insert ls at n) → get_or (insert ls at n) j 0 < get_or (insert ls at n) i 0
    falls_with i j less h =
        let long = length-insert ls at n within in
        elim (inserted i (omega (arith, less, h))) [
          | inl a ↦ elim (inserted j h) [
            | inl b ↦ omega (arith, a.1, b.1, falling.fall i j less (omega (arith, b.0, within)))
            | inr (inl b) ↦ omega (arith, a.1, b.1, above i a.0)
            | inr (inr b) ↦ omega (arith, a.1, b.4, falling.fall i b.0 (omega (arith, a.0, b.2)) b.3)
          ]
          | inr (inl a) ↦ elim (inserted j h) [
            | inl b ↦ absurd (omega (arith, a.0, b.0, less))
            | inr (inl b) ↦ absurd (omega (arith, a.0, b.0, less))
            | inr (inr b) ↦ omega (arith, a.1, b.4, below b.0 b.2 b.3)
          ]
          | inr (inr a) ↦ elim (inserted j h) [
            | inl b ↦ absurd (omega (arith, a.1, a.2, b.0, less))
            | inr (inl b) ↦ absurd (omega (arith, a.1, a.2, b.0, less))
            | inr (inr b) ↦ omega (arith, a.4, b.4, falling.fall a.0 b.0 (omega (arith, a.1, b.1, less)) b.3)
          ]
        ]

    few_with : n ≤ 128 → (i : ℕ) → i < length (insert ls at n) → get_or (insert ls at n) i 0 ≤ 128
    few_with few i h =
        elim (inserted i h) [
          | inl a ↦ omega (arith, a.1, falling.few i (omega (arith, a.0, within)))
          | inr (inl a) ↦ omega (arith, a.1, few)
          | inr (inr a) ↦ omega (arith, a.4, falling.few a.0 a.3)
        ]

    pub falling_with : n ≤ 128 → AreFalling (insert ls at n)
    falling_with few = record { fall = falls_with; few = few_with few }

  pub kept_with : Keeps ls (insert ls at n)
  kept_with len has =
      let long = length-insert ls at n within in
      elim (cases_lt has.0 at) [
        | inl before ↦ (has.0, omega (arith, long, has.1), get_or-insert_below ls at n 0 has.0 before within ∙ has.2)
        | inr past ↦ (has.0 + 1, omega (arith, long, has.1), get_or-insert_above ls at n 0 has.0 past within ∙ has.2)
      ]

-- from the first length that isn't above another on, none is, and where that one isn't the other, all are below
pub below_from : (ls : List ℕ) (at n : ℕ) → AreFalling ls → (at < length ls → get_or ls at 0 ≤ n)
    → (at < length ls → ¬ (get_or ls at 0 ≡ n))
    → (k : ℕ) → at ≤ k → k < length ls → get_or ls k 0 < n
below_from ls at n falling here other k from within =
    let inside : at < length ls = omega (arith, from, within) in
    let first : get_or ls at 0 < n =
    elim (cases_eq (get_or ls at 0) n) [
      | inl same ↦ absurd (other inside same)
      | inr apart ↦ omega (arith, here inside, apart)
    ] in
    elim (cases_eq k at) [
      | inl same ↦ subst (λ i. get_or ls i 0 < n) (sym same) first
      | inr apart ↦ omega (arith, falling.fall at k (omega (arith, from, apart)) within, first)
    ]
