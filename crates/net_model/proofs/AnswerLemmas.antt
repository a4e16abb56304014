-- A table of prefixes that is exact for entries, and the look-up in it.
use Rattle.std.proofs.Common.{◌≡◌, ℕ, ◌<◌, ◌≤◌, true, false, ltb, List, [], ◌∷◌, ◌++◌, Option, Some, None, refl, sym, ap, ◌∙◌, subst, arith, inl, inr}
use Rattle.std.specs.Prelude.{Contains, is_some, IsSome, if◌then◌else◌}
use Rattle.std.proofs.lemmas.Bool.{cases_Bool, both_ways, ltb-true, ltb-false}
use Rattle.std.proofs.lemmas.Option.{none-some, same_Some}
use Rattle.v6_addr.specs.Address.{PrefixValue, Holds, holds_address}
use Rattle.v6_addr.proofs.PublicLaws.{holds_address_is, same_value}
use Rattle.prefix_table.specs.PrefixTable.{HasPrefix, IsTable, IsBest, HoldsNone, is_one_prefix, value_at}
use Rattle.prefix_table.proofs.PublicLaws.{one_from, one_to, there_tells, value_tells, value_pushed}
use Rattle.net_model.specs.declared.net.Hit.{Hit}
use Rattle.net_model.specs.declared.net.Hit.TheVariants as hits
use Rattle.net_model.specs.Best.{Entry, longer, longest, hit_of}
use Rattle.net_model.specs.LookupTables.{HitTable, first_on, IsExact}
use Rattle.net_model.proofs.EntryLemmas.{contains_none, contains_cases, contains_first, contains_later}

-- ---- filling: an entry after the others

first_on_push : (p : PrefixValue) (es : List Entry) (e : Entry) (o : Option Hit) → first_on p es ≡ o
    → first_on p (es ++ e ∷ []) ≡ (if is_some o then o else (if is_one_prefix e.prefix p then Some e.hit else None))
first_on_push p [] e None is = refl
first_on_push p [] e (Some h) is = absurd (none-some h is)
first_on_push p (x ∷ es) e o is =
    elim (cases_Bool (is_one_prefix x.prefix p)) [
      | inl one ↦ rw one (there o (rw one at is))
      | inr other ↦ rw other (first_on_push p es e o (rw other at is))
    ]
  where
    there : (o : Option Hit) → Some x.hit ≡ o
        → Some x.hit ≡ (if is_some o then o else (if is_one_prefix e.prefix p then Some e.hit else None))
    there None is = absurd (none-some x.hit (sym is))
    there (Some h) is = is

-- a table that hasn't the prefix gets it
pub exact_new : (es : List Entry) (t : HitTable) (e : Entry) → IsExact es t → ¬ HasPrefix t e.prefix
    → IsExact (es ++ e ∷ []) (t ++ (e.prefix, e.hit) ∷ [])
exact_new es t e exact new p =
    elim (cases_Bool (is_one_prefix e.prefix p)) [
      | inl one ↦
          let none : value_at t p ≡ None = subst (λ q. value_at t q ≡ None) (one_from e.prefix p one) (none_at t e.prefix new) in
          value_pushed t e.prefix p e.hit new ∙ rw one (sym (first_on_push p es e None (sym (exact p) ∙ none) ∙ rw one refl))
      | inr other ↦ value_pushed t e.prefix p e.hit new
          ∙ rw other (exact p ∙ sym (not_here (first_on p es) refl other))
    ]
  where
    none_at : (t : HitTable) (q : PrefixValue) → ¬ HasPrefix t q → value_at t q ≡ None
    none_at t q none = known (value_at t q) (λ some. none ((there_tells t q).0 some))
      where
        known : (o : Option Hit) → (IsSome o → ⊥) → o ≡ None
        known None never = refl
        known (Some h) never = absurd (never refl)

    not_here : (o : Option Hit) → first_on p es ≡ o → is_one_prefix e.prefix p ≡ false → first_on p (es ++ e ∷ []) ≡ o
    not_here None is other = first_on_push p es e None is ∙ rw other refl
    not_here (Some h) is other = first_on_push p es e (Some h) is

-- a table that has it stays
pub exact_old : (es : List Entry) (t : HitTable) (e : Entry) → IsExact es t → HasPrefix t e.prefix → IsExact (es ++ e ∷ []) t
exact_old es t e exact has p =
    elim (cases_Bool (is_one_prefix e.prefix p)) [
      | inl one ↦ exact p ∙ sym (stays (first_on p es) refl
          (subst IsSome (exact p) (subst (λ q. IsSome (value_at t q)) (one_from e.prefix p one) ((there_tells t e.prefix).1 has))))
      | inr other ↦ exact p ∙ sym (not_here (first_on p es) refl other)
    ]
  where
    stays : (o : Option Hit) → first_on p es ≡ o → IsSome o → first_on p (es ++ e ∷ []) ≡ o
    stays None is some = cc
    stays (Some h) is some = first_on_push p es e (Some h) is

    not_here : (o : Option Hit) → first_on p es ≡ o → is_one_prefix e.prefix p ≡ false → first_on p (es ++ e ∷ []) ≡ o
    not_here None is other = first_on_push p es e None is ∙ rw other refl
    not_here (Some h) is other = first_on_push p es e (Some h) is

pub exact_none : IsExact [] []
exact_none p = refl

-- ---- the look-up

holds_from : (p : PrefixValue) (a : ℕ) → holds_address p a ≡ true → Holds p a
holds_from p a h = (holds_address_is p a).0 h

holds_to : (p : PrefixValue) (a : ℕ) → Holds p a → holds_address p a ≡ true
holds_to p a h = (holds_address_is p a).1 h

-- what the longest of entries is: it holds the address, none that does is longer, and it is the first on its prefix
pub record IsTop (a : ℕ) (es : List Entry) (e : Entry) : Type 0 where
  pub holds : Holds e.prefix a
  pub none_longer : (f : Entry) → Contains es f → Holds f.prefix a → f.prefix.len ≤ e.prefix.len
  pub first : first_on e.prefix es ≡ Some e.hit

abbrev pub IsTopOf : ℕ → List Entry → Option Entry → Type 0
IsTopOf a es None = (f : Entry) → Contains es f → ¬ Holds f.prefix a
IsTopOf a es (Some e) = IsTop a es e

other_prefix : (p q : PrefixValue) → (p ≡ q → ⊥) → is_one_prefix p q ≡ false
other_prefix p q apart =
    elim (cases_Bool (is_one_prefix p q)) [ inl one ↦ absurd (apart (one_from p q one)) | inr other ↦ other ]

behind : (a : ℕ) (x e : Entry) (es : List Entry) → (Holds x.prefix a → x.prefix.len < e.prefix.len) → IsTop a es e → IsTop a (x ∷ es) e
behind a x e es shorter top = record {
  holds = top.holds;
  none_longer = λ f c held. elim (contains_cases x es f c) [
    | inl is ↦ let below = shorter (subst (λ (g : Entry). Holds g.prefix a) (sym is) held) in
        subst (λ (g : Entry). g.prefix.len ≤ e.prefix.len) is (omega (arith, below))
    | inr more ↦ top.none_longer f more held
  ];
  first = rw (other_prefix x.prefix e.prefix (λ same.
      let below = shorter (subst (λ q. Holds q a) (sym same) top.holds) in
      let lens = ap (λ (q : PrefixValue). q.len) same in
      omega (arith, below, lens))) top.first;
}

in_front : (a : ℕ) (x : Entry) (es : List Entry) → Holds x.prefix a
    → ((f : Entry) → Contains es f → Holds f.prefix a → f.prefix.len ≤ x.prefix.len) → IsTop a (x ∷ es) x
in_front a x es held none_longer = record {
  holds = held;
  none_longer = λ f c f_held. elim (contains_cases x es f c) [
    | inl is ↦ subst (λ (g : Entry). g.prefix.len ≤ x.prefix.len) is (omega arith)
    | inr more ↦ none_longer f more f_held
  ];
  first = rw (one_to x.prefix x.prefix refl) refl;
}

top_with : (a : ℕ) (x : Entry) (es : List Entry) (o : Option Entry) → Holds x.prefix a → IsTopOf a es o
    → IsTopOf a (x ∷ es) (longer (Some x) o)
top_with a x es None held none = in_front a x es held (λ f c f_held. absurd (none f c f_held))
top_with a x es (Some e) held top =
    elim (cases_Bool (ltb x.prefix.len e.prefix.len)) [
      | inl is ↦ rw is (behind a x e es (λ h. ltb-true _ _ is) top)
      | inr is ↦ let no_longer = ltb-false _ _ is in
          rw is (in_front a x es held (λ f c f_held. omega (arith, no_longer, top.none_longer f c f_held)))
    ]

top_without : (a : ℕ) (x : Entry) (es : List Entry) (o : Option Entry) → ¬ Holds x.prefix a → IsTopOf a es o → IsTopOf a (x ∷ es) o
top_without a x es None fails none = λ f c held. elim (contains_cases x es f c) [
  | inl is ↦ fails (subst (λ (g : Entry). Holds g.prefix a) (sym is) held)
  | inr more ↦ none f more held
]
top_without a x es (Some e) fails top = behind a x e es (λ h. absurd (fails h)) top

longest_top : (a : ℕ) (es : List Entry) → IsTopOf a es (longest a es)
longest_top a [] = λ f c. absurd (contains_none f c)
longest_top a (x ∷ es) =
    elim (cases_Bool (holds_address x.prefix a)) [
      | inl h ↦ rw h (top_with a x es (longest a es) (holds_from x.prefix a h) (longest_top a es))
      | inr h ↦ rw h (top_without a x es (longest a es) (λ held. both_ways _ h (holds_to x.prefix a held)) (longest_top a es))
    ]

-- the first on a prefix is an entry with it
on_prefix : (p : PrefixValue) (es : List Entry) (h : Hit) → first_on p es ≡ Some h
    → (e : Entry) × Contains es e × (e.prefix ≡ p) × (e.hit ≡ h)
on_prefix p [] h is = absurd (none-some h is)
on_prefix p (x ∷ es) h is =
    elim (cases_Bool (is_one_prefix x.prefix p)) [
      | inl one ↦ (x, contains_first x es, one_from x.prefix p one, same_Some x.hit h (rw one at is))
      | inr other ↦ let e = on_prefix p es h (rw other at is) in (e.0, contains_later x es e.0 e.1, e.2, e.3)
    ]

-- an entry of an exact table is one of the entries
entry_of : (es : List Entry) (t : HitTable) (p : PrefixValue) (h : Hit) → IsTable t → IsExact es t → Contains t (p, h)
    → (e : Entry) × Contains es e × (e.prefix ≡ p) × (e.hit ≡ h)
entry_of es t p h table exact c = on_prefix p es h (sym (exact p) ∙ value_tells t p h table c)

-- the best match of an exact table is the longest of the entries, and there is none exactly where none holds the address
hit_there : (es : List Entry) (t : HitTable) (a : ℕ) (o : Option Entry) (f : PrefixValue × Hit) → IsTopOf a es o → IsTable t
    → IsExact es t → IsBest t a f → f.1 ≡ hit_of o
hit_there es t a None f none table exact best =
    let e = entry_of es t f.0 f.1 table exact best.is_there in
    absurd (none e.0 e.1 (subst (λ q. Holds q a) (sym e.2) best.holds))
hit_there es t a (Some e) f top table exact best =
    let g = entry_of es t f.0 f.1 table exact best.is_there in
    let no_longer = top.none_longer g.0 g.1 (subst (λ q. Holds q a) (sym g.2) best.holds) in
    let has = (there_tells t e.prefix).0 (ap is_some (exact e.prefix ∙ top.first)) in
    let no_shorter = best.none_longer (e.prefix, has.0) has.1 top.holds in
    let lens = ap (λ (q : PrefixValue). q.len) g.2 in
    let len : f.0.len ≡ e.prefix.len = omega (arith, lens, no_longer, no_shorter) in
    let value = same_value f.0 e.prefix a (table.prefixes f best.is_there) (table.prefixes (e.prefix, has.0) has.1) len best.holds
    top.holds in
    let same : f.0 ≡ e.prefix = λ i. record { value = value i; len = len i } in
    same_Some f.1 e.hit (sym (value_tells t f.0 f.1 table best.is_there) ∙ (ap (value_at t) same ∙ (exact e.prefix ∙ top.first)))

pub longest_hit : (es : List Entry) (t : HitTable) (a : ℕ) (f : PrefixValue × Hit) → IsTable t → IsExact es t → IsBest t a f
    → f.1 ≡ hit_of (longest a es)
longest_hit es t a f table exact best = hit_there es t a (longest a es) f (longest_top a es) table exact best

pub longest_none : (es : List Entry) (t : HitTable) (a : ℕ) → IsExact es t → HoldsNone t a → hits.Nothing ≡ hit_of (longest a es)
longest_none es t a exact none = nothing (longest a es) (longest_top a es)
  where
    nothing : (o : Option Entry) → IsTopOf a es o → hits.Nothing ≡ hit_of o
    nothing None top = refl
    nothing (Some e) top =
        let has = (there_tells t e.prefix).0 (ap is_some (exact e.prefix ∙ top.first)) in absurd (none (e.prefix, has.0) has.1 top.holds)
