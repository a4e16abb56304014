-- A table after an entry is taken out and the last one takes its place.
use Rattle.std.proofs.Common.{◌≡◌, ℕ, zero, suc, ◌-◌, ◌<◌, ◌⊎◌, true, List, [], ◌∷◌, length, take, slice_get, slice_set, Option, Some, None, refl, sym, ap, ◌∙◌, subst, arith, inl, inr}
use Rattle.std.specs.Prelude.{slice_index_or, if◌then◌else◌, is_some}
use Rattle.std.specs.List.{Contains, swap_remove}
use Rattle.std.specs.Ordering.{is_eq}
use Rattle.std.specs.BTreeMap as map
use Rattle.std.proofs.lemmas.Bool.{cases_Bool, cases_eq, both_ways}
use Rattle.std.proofs.lemmas.Option.{none-some, same_Some, slice_get-get_or, slice_get_within}
use Rattle.v6_addr.specs.Address.{PrefixValue}
use Rattle.prefix_table.specs.declared.index.Key.{Key}
use Rattle.prefix_table.specs.declared.index.Index.{Index}
use Rattle.prefix_table.specs.PrefixTable.{HasPrefix, EachOnce, IsTable, is_one_prefix, value_at}
use Rattle.prefix_table.specs.Index.{key_cmp, key_of, place_at, AreLengths, IsTold, IsIndex, IsWhole}
use Rattle.prefix_table.proofs.TableLemmas.{has_by}
use Rattle.prefix_table.proofs.IndexLemmas.{key_same, key_self, place_of, contains_at, taken_cases, updated_other}
use Rattle.prefix_table.proofs.TableEditLemmas.{one_or_other, value_none, there_tells, value_tells}

-- ---- elements by their places

get_take : {X : Type 0} (n : ℕ) (xs : List X) (j : ℕ) → j < n → slice_get (take n xs) j ≡ slice_get xs j
get_take zero xs j h = absurd (omega (arith, h))
get_take (suc n) [] j h = refl
get_take (suc n) (x ∷ xs) zero h = refl
get_take (suc n) (x ∷ xs) (suc j) h = get_take n xs j (omega (arith, h))

within_take : {X : Type 0} (n : ℕ) (xs : List X) (j : ℕ) (x : X) → slice_get (take n xs) j ≡ Some x → j < n
within_take zero xs j x h = absurd (none-some x h)
within_take (suc n) [] j x h = absurd (none-some x h)
within_take (suc n) (y ∷ xs) zero x h = omega arith
within_take (suc n) (y ∷ xs) (suc j) x h = let less = within_take n xs j x h in omega (arith, less)

get_set_same : {X : Type 0} (xs : List X) (i : ℕ) (x : X) → i < length xs → slice_get (slice_set xs i x) i ≡ Some x
get_set_same [] i x h = absurd (omega (arith, h))
get_set_same (y ∷ ys) zero x h = refl
get_set_same (y ∷ ys) (suc i) x h = get_set_same ys i x (omega (arith, h))

get_set_other : {X : Type 0} (xs : List X) (i j : ℕ) (x : X) → (j ≡ i → ⊥) → slice_get (slice_set xs i x) j ≡ slice_get xs j
get_set_other [] i j x h = refl
get_set_other (y ∷ ys) zero zero x h = absurd (h refl)
get_set_other (y ∷ ys) zero (suc j) x h = refl
get_set_other (y ∷ ys) (suc i) zero x h = refl
get_set_other (y ∷ ys) (suc i) (suc j) x h = get_set_other ys i j x (λ e. h (ap suc e))

-- where an element stood that stands at place j after that at i was taken out: there, or at the end if j is i
pub record WasAt {X : Type 0} (xs : List X) (i j : ℕ) (e : X) : Type 0 where
  pub at : ℕ
  pub there : slice_get xs at ≡ Some e
  pub other : at ≡ i → ⊥
  pub before_end : suc j < length xs
  pub how : (at ≡ j) ⊎ ((j ≡ i) × (suc at ≡ length xs))

pub swap_from : {X : Type 0} (xs : List X) (i j : ℕ) (x e : X) → slice_get xs i ≡ Some x → slice_get (swap_remove xs i x) j ≡ Some e
    → WasAt xs i j e
swap_from xs i j x e there h =
    let last = length xs - 1 in
    let end = slice_index_or xs last x in
    let before : j < last = within_take last (slice_set xs i end) j e h in
    let within : i < length xs = slice_get_within xs i x there in
    let got : slice_get (slice_set xs i end) j ≡ Some e = sym (get_take last (slice_set xs i end) j before) ∙ h in
    let long : suc j < length xs = omega (arith, before) in
    elim (cases_eq j i) [
      | inl here ↦
          let read : slice_get xs last ≡ Some end = slice_get-get_or xs last x (omega (arith, within)) in
          let is_end : Some end ≡ Some e =
          sym (get_set_same xs i end within) ∙ (ap (slice_get (slice_set xs i end)) (sym here) ∙ got) in
          record {
            at = last;
            there = read ∙ is_end;
            other = λ same. omega (arith, same, here, before);
            before_end = long;
            how = inr (here, omega (arith, within));
          }
      | inr apart ↦ record {
        at = j;
        there = sym (get_set_other xs i j end apart) ∙ got;
        other = apart;
        before_end = long;
        how = inl refl;
      }
    ]

pub swap_to : {X : Type 0} (xs : List X) (i m : ℕ) (x e : X) → slice_get xs i ≡ Some x → slice_get xs m ≡ Some e → (m ≡ i → ⊥)
    → ((suc m < length xs) × (slice_get (swap_remove xs i x) m ≡ Some e))
    ⊎ ((suc m ≡ length xs) × (slice_get (swap_remove xs i x) i ≡ Some e))
swap_to xs i m x e there at other =
    let last = length xs - 1 in
    let end = slice_index_or xs last x in
    let within : i < length xs = slice_get_within xs i x there in
    let inside : m < length xs = slice_get_within xs m e at in
    elim (cases_eq m last) [
      | inl is_last ↦
          let less : i < last = omega (arith, within, other, is_last) in
          let read : slice_get xs last ≡ Some end = slice_get-get_or xs last x (omega (arith, within)) in
          inr (
            omega (arith, within, is_last),
            get_take last (slice_set xs i end) i less
                ∙ (get_set_same xs i end within ∙ (sym read ∙ (ap (slice_get xs) (sym is_last) ∙ at))),
          )
      | inr early ↦
          let less : m < last = omega (arith, inside, early) in
          inl (omega (arith, less), get_take last (slice_set xs i end) m less ∙ (get_set_other xs i m end other ∙ at))
    ]

module _ {T : Type 0} where
  -- ---- each prefix stands once exactly where two places with one prefix are one

  one_at : (es : List (PrefixValue × T)) (i j : ℕ) (e f : PrefixValue × T) → EachOnce es → slice_get es i ≡ Some e → slice_get es j ≡ Some f
      → e.0 ≡ f.0 → i ≡ j
  one_at [] i j e f once at there same = absurd (none-some e at)
  one_at (x ∷ es) zero zero e f once at there same = refl
  one_at (x ∷ es) zero (suc j) e f once at there same =
      absurd (once.0 (has_by es f x.0 (contains_at es f j there)
      (sym same ∙ ap (λ (g : PrefixValue × T). g.0) (sym (same_Some x e at)))))
  one_at (x ∷ es) (suc i) zero e f once at there same =
      absurd (once.0 (has_by es e x.0 (contains_at es e i at)
      (same ∙ ap (λ (g : PrefixValue × T). g.0) (sym (same_Some x f there)))))
  one_at (x ∷ es) (suc i) (suc j) e f once at there same = ap suc (one_at es i j e f once.1 at there same)

  abbrev AreApart : List (PrefixValue × T) → Type 0
  AreApart es = (i j : ℕ) (e f : PrefixValue × T) → slice_get es i ≡ Some e → slice_get es j ≡ Some f → e.0 ≡ f.0 → i ≡ j

  once_by : (es : List (PrefixValue × T)) → AreApart es → EachOnce es
  once_by [] one = tt
  once_by (x ∷ es) one = (
    λ has. let at = place_of es (x.0, has.0) has.1 in
        let same : zero ≡ suc at.0 = one zero (suc at.0) x (x.0, has.0) refl at.1 refl in omega (arith, same),
    once_by es (λ i j e f at there same.
        let next : suc i ≡ suc j = one (suc i) (suc j) e f at there same in omega (arith, next)),
  )

  -- ---- what is left is a table, and has the other values

  module _ (es : List (PrefixValue × T)) (place : ℕ) (e : PrefixValue × T) (there : slice_get es place ≡ Some e) where
    one_left : (i j m n : ℕ) → m ≡ n → suc i < length es → suc j < length es → (m ≡ i) ⊎ ((i ≡ place) × (suc m ≡ length es))
        → (n ≡ j) ⊎ ((j ≡ place) × (suc n ≡ length es)) → i ≡ j
    one_left i j m n one in_i in_j (inl a) (inl b) = omega (arith, one, a, b)
    one_left i j m n one in_i in_j (inl a) (inr b) = absurd (omega (arith, one, a, b.1, in_i))
    one_left i j m n one in_i in_j (inr a) (inl b) = absurd (omega (arith, one, a.1, b, in_j))
    one_left i j m n one in_i in_j (inr a) (inr b) = omega (arith, a.0, b.0)

    apart_left : EachOnce es → AreApart (swap_remove es place e)
    apart_left once i j f g at_i at_j same =
        let a = swap_from es place i e f there at_i in
        let b = swap_from es place j e g there at_j in
        one_left i j a.at b.at (one_at es a.at b.at f g once a.there b.there same) a.before_end b.before_end a.how b.how

    -- an entry that is left stood in the table, at another place
    left_was : (f : PrefixValue × T) → Contains (swap_remove es place e) f
        → (m : ℕ) × (slice_get es m ≡ Some f) × (m ≡ place → ⊥)
    left_was f c =
        let at = place_of (swap_remove es place e) f c in
        let was = swap_from es place at.0 e f there at.1 in
        (was.at, was.there, was.other)

    has_left : (q : PrefixValue) → HasPrefix (swap_remove es place e) q → HasPrefix es q
    has_left q has = let was = left_was (q, has.0) has.1 in (has.0, contains_at es (q, has.0) was.0 was.1)

    is_gone : EachOnce es → ¬ HasPrefix (swap_remove es place e) e.0
    is_gone once has =
        let was = left_was (e.0, has.0) has.1 in was.2 (one_at es was.0 place (e.0, has.0) e once was.1 there refl)

    stays : (f : PrefixValue × T) → Contains es f → (e.0 ≡ f.0 → ⊥) → Contains (swap_remove es place e) f
    stays f c other =
        let at = place_of es f c in
        let apart : at.0 ≡ place → ⊥ =
        λ same. other (ap (λ (g : PrefixValue × T). g.0)
        (same_Some e f (sym there ∙ (ap (slice_get es) (sym same) ∙ at.1)))) in
        elim (swap_to es place at.0 e f there at.1 apart) [
          | inl here ↦ contains_at (swap_remove es place e) f at.0 here.1
          | inr moved ↦ contains_at (swap_remove es place e) f place moved.1
        ]

  pub is_table_swapped : (es : List (PrefixValue × T)) (place : ℕ) (e : PrefixValue × T) → IsTable es → slice_get es place ≡ Some e
      → IsTable (swap_remove es place e)
  is_table_swapped es place e table there = record {
    prefixes = λ f c. let was = left_was es place e there f c in table.prefixes f (contains_at es f was.0 was.1);
    once = once_by (swap_remove es place e) (apart_left es place e there table.once);
  }

  pub value_swapped : (es : List (PrefixValue × T)) (place : ℕ) (p q : PrefixValue) (t : T) → IsTable es
      → slice_get es place ≡ Some (p, t)
      → value_at (swap_remove es place (p, t)) q ≡ (if is_one_prefix p q then None else value_at es q)
  value_swapped es place p q t table there =
      let left = swap_remove es place (p, t) in
      elim (one_or_other p q) [
        | inl one ↦ rw one.1 (value_none left q (λ has.
            is_gone es place (p, t) there table.once (subst (HasPrefix left) (sym one.0) has)))
        | inr other ↦ rw other.1 (elim (cases_Bool (is_some (value_at es q))) [
          | inl some ↦
              let has = (there_tells es q).0 some in
              let stood = stays es place (p, t) there (q, has.0) has.1 other.0 in
              value_tells left q has.0 (is_table_swapped es place (p, t) table there) stood
              ∙ sym (value_tells es q has.0 table has.1)
          | inr none ↦
              let without : ¬ HasPrefix es q = λ has. both_ways _ none ((there_tells es q).1 has) in
              value_none left q (λ has. without (has_left es place (p, t) there q has)) ∙ sym (value_none es q without)
        ])
      ]

  -- the entry that is taken out, by its prefix and its value
  pub swapped_as : (es left : List (PrefixValue × T)) (place : ℕ) (e : PrefixValue × T) (p : PrefixValue) → e.0 ≡ p
      → slice_get es place ≡ Some e → left ≡ swap_remove es place e
      → (slice_get es place ≡ Some (p, e.1)) × (left ≡ swap_remove es place (p, e.1))
  swapped_as es left place e p is_p there is_left =
      let same : e ≡ (p, e.1) = λ i. (is_p i, e.1) in (there ∙ ap Some same, is_left ∙ ap (swap_remove es place) same)

  -- ---- the places are those of what is left, once the one that moved is told

  module _ (es : List (PrefixValue × T)) (old mid : Index) (key : Key) (place : ℕ) (e : PrefixValue × T) (is : IsIndex es old)
      (at : place_at old key ≡ Some place) (there : slice_get es place ≡ Some e)
      (taken : map.Updates key_cmp old.places mid.places key None) where
    another : (f : PrefixValue × T) (m : ℕ) → slice_get es m ≡ Some f → (m ≡ place → ⊥) → key ≡ key_of f.0 → ⊥
    another f m stood other same =
        let found : Some m ≡ Some place = sym (is.each m f stood) ∙ (ap (place_at old) (sym same) ∙ at) in
        other (same_Some m place found)

    kept : (f : PrefixValue × T) (m : ℕ) → slice_get es m ≡ Some f → (m ≡ place → ⊥) → place_at mid (key_of f.0) ≡ Some m
    kept f m stood other =
        updated_other old mid key (key_of f.0) None taken (another f m stood other) ∙ is.each m f stood

    pub has_place_left : (f : PrefixValue × T) → slice_get (swap_remove es place e) place ≡ Some f
        → is_some (place_at mid (key_of f.0)) ≡ true
    has_place_left f left =
        let was = swap_from es place place e f there left in ap is_some (kept f was.at was.there was.other)

    module _ (new : Index) (told : IsTold (swap_remove es place e) mid new place) where
      each_left : (j : ℕ) (f : PrefixValue × T) → slice_get (swap_remove es place e) j ≡ Some f → place_at new (key_of f.0) ≡ Some j
      each_left j f left =
          let was = swap_from es place j e f there left in
          elim (cases_eq j place) [
            | inl here ↦
                told.here f (ap (slice_get (swap_remove es place e)) (sym here) ∙ left) ∙ ap Some (sym here)
            | inr apart ↦ elim was.how [
              | inl same ↦
                  told.others (key_of f.0) (λ g at_place one.
                  let moved = swap_from es place place e g there at_place in
                  let found : Some moved.at ≡ Some was.at =
                  sym (is.each moved.at g moved.there) ∙ (ap (place_at old) one ∙ is.each was.at f was.there) in
                  end_apart moved.at was.at (same_Some moved.at was.at found) moved.how moved.other same was.before_end)
                  ∙ (kept f was.at was.there was.other ∙ ap Some same)
              | inr end ↦ absurd (apart end.0)
            ]
          ]
        where
          end_apart : (m n : ℕ) → m ≡ n → (m ≡ place) ⊎ ((place ≡ place) × (suc m ≡ length es)) → (m ≡ place → ⊥) → n ≡ j
              → suc j < length es → ⊥
          end_apart m n one (inl at_gap) other same before = other at_gap
          end_apart m n one (inr at_end) other same before = omega (arith, one, at_end.1, same, before)

      leads_left : (k : Key) (j : ℕ) → place_at new k ≡ Some j
          → (f : PrefixValue × T) × (slice_get (swap_remove es place e) j ≡ Some f) × (key_of f.0 ≡ k)
      leads_left k j now = by_gap (slice_get (swap_remove es place e) place) refl
        where
          Found : Type 0
          Found = (f : PrefixValue × T) × (slice_get (swap_remove es place e) j ≡ Some f) × (key_of f.0 ≡ k)

          -- the key isn't that of an entry at the gap
          elsewhere : ((f : PrefixValue × T) → slice_get (swap_remove es place e) place ≡ Some f → key_of f.0 ≡ k → ⊥) → Found
          elsewhere other =
              let mid_at : place_at mid k ≡ Some j = sym (told.others k other) ∙ now in
              let was = taken_cases old mid key k j taken mid_at in
              let found = is.leads k j was.1 in
              let apart : j ≡ place → ⊥ = λ same.
              let it = is.leads key place at in
              let one : it.0 ≡ found.0 = same_Some it.0 found.0 (sym it.1 ∙ (ap (slice_get es) (sym same) ∙ found.1)) in
              was.0 (sym it.2 ∙ (ap (λ (f : PrefixValue × T). key_of f.0) one ∙ found.2)) in
              elim (swap_to es place j e found.0 there found.1 apart) [
                | inl here ↦ (found.0, here.1, found.2)
                | inr moved ↦ absurd (other found.0 moved.1 found.2)
              ]

          by_gap : (o : Option (PrefixValue × T)) → slice_get (swap_remove es place e) place ≡ o → Found
          by_gap None gap = elsewhere (λ f here one. none-some f (sym gap ∙ here))
          by_gap (Some f) gap =
              elim (cases_Bool (is_eq (key_cmp (key_of f.0) k))) [
                | inl one ↦
                    let same : key_of f.0 ≡ k = key_same (key_of f.0) k one in
                    let found : Some place ≡ Some j = sym (told.here f gap) ∙ (ap (place_at new) same ∙ now) in
                    (f, ap (slice_get (swap_remove es place e)) (sym (same_Some place j found)) ∙ gap, same)
                | inr apart ↦ elsewhere (λ g here one.
                    let same : f ≡ g = same_Some f g (sym gap ∙ here) in
                    both_ways _ apart (ap (λ q. is_eq (key_cmp q k)) (ap (λ (h : PrefixValue × T). key_of h.0) same ∙ one) ∙ key_self k))
              ]

      pub whole_swapped : (left : List (PrefixValue × T)) → left ≡ swap_remove es place e → IsTable es → AreLengths new → IsWhole left new
      whole_swapped left is_left table lengths =
          subst (λ xs. IsWhole xs new) (sym is_left)
          (record {
            table = is_table_swapped es place e table there;
            lengths = lengths;
            places = record { each = each_left; leads = leads_left };
          })
