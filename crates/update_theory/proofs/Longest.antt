-- The longest of the entries that pass a test, where it is that of all, and where there is none.
use Rattle.std.proofs.Common.{◌≡◌, ◌⊎◌, ℕ, Bool, true, false, cond, if◌then◌else◌, List, [], ◌∷◌, Some, None, refl, sym, ap, subst, inl, inr}
use Rattle.std.proofs.lemmas.Bool.{cases_Bool, both_ways, false_from_ne_true}
use Rattle.std.specs.List.{Contains, filter}
use Rattle.v6_addr.specs.Address.{PrefixValue, Holds, holds_address}
use Rattle.v6_addr.proofs.PublicLaws.{holds_address_is}
use Rattle.net_model.specs.Best.{Entry, longer, longest}
use Rattle.net_model.proofs.PublicLaws.{contains_none, contains_cases, contains_first, contains_later}

holds_from : (p : PrefixValue) (a : ℕ) → holds_address p a ≡ true → Holds p a
holds_from p a h = (holds_address_is p a).0 h

one_more_passes : (a : ℕ) (x : Entry) (b : Bool) (es xs : List Entry) → longest a es ≡ longest a xs → (Holds x.prefix a → b ≡ true)
    → longest a (cond b (x ∷ es) es) ≡ longest a (x ∷ xs)
one_more_passes a x true es xs e h = ap (λ o. if holds_address x.prefix a then longer (Some x) o else o) e
one_more_passes a x false es xs e h =
    elim (cases_Bool (holds_address x.prefix a)) [
      | inl held ↦ absurd (both_ways false refl (h (holds_from x.prefix a held)))
      | inr fails ↦ rw fails e
    ]

-- where all entries that hold the address pass, the longest of those that pass is that of all
pub longest_of_all : (p : Entry → Bool) (a : ℕ) (es : List Entry) → ((e : Entry) → Contains es e → Holds e.prefix a → p e ≡ true)
    → longest a (filter p es) ≡ longest a es
longest_of_all p a [] h = refl
longest_of_all p a (x ∷ xs) h =
    one_more_passes a x (p x) (filter p xs) xs (longest_of_all p a xs (λ e c. h e (contains_later x xs e c))) (h x (contains_first x xs))

one_more_fails : (a : ℕ) (x : Entry) (b : Bool) (es : List Entry) → longest a es ≡ None → (b ≡ true → ¬ Holds x.prefix a)
    → longest a (cond b (x ∷ es) es) ≡ None
one_more_fails a x true es e h =
    let fails : holds_address x.prefix a ≡ false =
    false_from_ne_true (holds_address x.prefix a) (λ held. h refl (holds_from x.prefix a held)) in
    rw fails e
one_more_fails a x false es e h = e

-- an entry passes and holds the address
abbrev pub IsShown : (Entry → Bool) → ℕ → List Entry → Entry → Type 0
IsShown p a es e = Contains es e × (p e ≡ true) × Holds e.prefix a

-- none passes and holds the address, and so nothing is found
abbrev pub NoneShown : (Entry → Bool) → ℕ → List Entry → Type 0
NoneShown p a es = (e : Entry) → Contains es e → p e ≡ true → ¬ Holds e.prefix a

pub none_shown : (p : Entry → Bool) (a : ℕ) (es : List Entry) → NoneShown p a es → longest a (filter p es) ≡ None
none_shown p a [] h = refl
none_shown p a (x ∷ xs) h =
    one_more_fails a x (p x) (filter p xs) (none_shown p a xs (λ e c. h e (contains_later x xs e c))) (h x (contains_first x xs))

shown_in_front : (p : Entry → Bool) (a : ℕ) (x : Entry) (xs : List Entry)
    → ((e : Entry) × IsShown p a xs e) ⊎ NoneShown p a xs → (p x ≡ false) ⊎ (¬ Holds x.prefix a)
    → ((e : Entry) × IsShown p a (x ∷ xs) e) ⊎ NoneShown p a (x ∷ xs)
shown_in_front p a x xs (inl some) fails = inl (some.0, (contains_later x xs some.0 some.1.0, some.1.1, some.1.2))
shown_in_front p a x xs (inr none) fails = inr (λ e c is held. elim (contains_cases x xs e c) [
  | inl same ↦ elim fails [
    | inl hidden ↦ both_ways (p x) hidden (subst (λ z. p z ≡ true) (sym same) is)
    | inr apart ↦ apart (subst (λ z. Holds z.prefix a) (sym same) held)
  ]
  | inr more ↦ none e more is held
])

-- one is shown, or none
pub shown_or_none : (p : Entry → Bool) (a : ℕ) (es : List Entry) → ((e : Entry) × IsShown p a es e) ⊎ NoneShown p a es
shown_or_none p a [] = inr (λ e c is held. contains_none e c)
shown_or_none p a (x ∷ xs) =
    elim (cases_Bool (p x)) [
      | inl is ↦ elim (cases_Bool (holds_address x.prefix a)) [
        | inl held ↦ inl (x, (contains_first x xs, is, holds_from x.prefix a held))
        | inr fails ↦ shown_in_front p a x xs (shown_or_none p a xs) (inr (λ h. both_ways _ fails ((holds_address_is x.prefix a).1 h)))
      ]
      | inr other ↦ shown_in_front p a x xs (shown_or_none p a xs) (inl other)
    ]
