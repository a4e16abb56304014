-- The places of entries by the keys of their prefixes, and the lengths of keys.
use Rattle.std.proofs.Common.{◌≡◌, ◌↔◌, ℕ, zero, suc, ◌-◌, ◌/◌, ◌^◌, ◌<◌, ◌≤◌, ◌⊎◌, Bool, true, ◌==◌, ◌&&◌, cond, List, [], ◌∷◌, ◌++◌, length, get_or, slice_get, Option, Some, None, Contains, refl, sym, ap, ◌∙◌, subst, arith, inl, inr}
use Rattle.std.specs.Prelude.{is_some, IsTrue}
use Rattle.std.specs.declared.cmp.Ordering.{Ordering}
use Rattle.std.specs.declared.cmp.Ordering.TheVariants.{Less, Equal, Greater}
use Rattle.std.specs.Ordering.{nat_cmp, ordering_then, is_eq}
use Rattle.std.specs.BTreeMap as map
use Rattle.std.proofs.lemmas.Bool.{cases_Bool, cases_lt, cases_eq, both_ways, and_parts, and_from, eqb-true, eq-eqb, false≢true}
use Rattle.std.proofs.lemmas.Bool.Decides.{nat_tests}
use Rattle.std.proofs.lemmas.Option.{none-some, slice_get-get_or, slice_get_within, get_or_from_slice_get}
use Rattle.v6_addr.specs.Address.{PrefixValue, Holds}
use Rattle.v6_addr.specs.AddressTerms.{IsPrefix}
use Rattle.v6_addr.proofs.PublicLaws.{same_value, Holds_own_value}
use Rattle.prefix_table.specs.declared.index.Key.{Key}
use Rattle.prefix_table.specs.declared.index.Index.{Index}
use Rattle.prefix_table.specs.PrefixTable.{HasPrefix, IsTable, HoldsNone, IsBest, HasAround}
use Rattle.prefix_table.specs.Index.{key_cmp, key_at, key_of, place_at, AreFalling, HasLength, Keeps, AreLengths, HasNoKey, IsLongest, HasBelow, HasShorter, IsIndex, IsWhole}
use Rattle.prefix_table.proofs.TableLemmas.{same_prefix, is_table_push}

-- ---- keys

then_is_eq : (o p : Ordering) → is_eq (ordering_then o p) ≡ (is_eq o && is_eq p)
then_is_eq Less p = refl
then_is_eq Equal p = refl
then_is_eq Greater p = refl

number_is_eq : (m n : ℕ) → is_eq (nat_cmp m n) ≡ (m == n)
number_is_eq m n = grind (arith, nat_tests)

key_is : (k q : Key) → is_eq (key_cmp k q) ≡ ((k.len == q.len) && (k.bits == q.bits))
key_is k q =
    then_is_eq (nat_cmp k.len q.len) (nat_cmp k.bits q.bits)
    ∙ (ap (λ b. b && is_eq (nat_cmp k.bits q.bits)) (number_is_eq k.len q.len)
    ∙ ap (λ b. (k.len == q.len) && b) (number_is_eq k.bits q.bits))

pub key_same : (k q : Key) → is_eq (key_cmp k q) ≡ true → k ≡ q
key_same k q is =
    let parts = and_parts (k.len == q.len) (k.bits == q.bits) (sym (key_is k q) ∙ is) in
    λ i. record { len = eqb-true k.len q.len parts.0 i; bits = eqb-true k.bits q.bits parts.1 i }

pub key_self : (k : Key) → is_eq (key_cmp k k) ≡ true
key_self k = key_is k k ∙ and_from (k.len == k.len) (k.bits == k.bits) (eq-eqb k.len k.len refl) (eq-eqb k.bits k.bits refl)

-- ---- places

-- a key's place after another key got one
put_cases : (old new : Index) (key k : Key) (n i : ℕ) → map.Updates key_cmp old.places new.places key (Some n) → place_at new k ≡ Some i
    → ((key ≡ k) × (n ≡ i)) ⊎ (place_at old k ≡ Some i)
put_cases old new key k n i update is =
    let told : place_at new k ≡ cond (is_eq (key_cmp key k)) (Some n) (place_at old k) = update.0 k in
    elim (cases_Bool (is_eq (key_cmp key k))) [
      | inl here ↦ let got : place_at new k ≡ Some n = rw here at told in inl (key_same key k here, cc)
      | inr apart ↦ let got : place_at new k ≡ place_at old k = rw apart at told in inr (sym got ∙ is)
    ]

put_other : (old new : Index) (key k : Key) (n i : ℕ) → map.Updates key_cmp old.places new.places key (Some n) → place_at old key ≡ None
    → place_at old k ≡ Some i → place_at new k ≡ Some i
put_other old new key k n i update new_key is =
    let told : place_at new k ≡ cond (is_eq (key_cmp key k)) (Some n) (place_at old k) = update.0 k in
    elim (cases_Bool (is_eq (key_cmp key k))) [
      | inl here ↦ absurd (none-some i (sym new_key ∙ ap (place_at old) (key_same key k here) ∙ is))
      | inr apart ↦ let got : place_at new k ≡ place_at old k = rw apart at told in got ∙ is
    ]

-- the lengths of all keys, after one more key
pub lengths_put : (old new : Index) (key : Key) (n : ℕ) → AreLengths old → AreFalling new.lengths.items
    → Keeps old.lengths.items new.lengths.items → HasLength new.lengths.items key.len
    → map.Updates key_cmp old.places new.places key (Some n) → AreLengths new
lengths_put old new key n are falling keeps noted update = record {
  falling = falling;
  each = λ k i is. elim (put_cases old new key k n i update is) [
    | inl here ↦ subst (λ (q : Key). HasLength new.lengths.items q.len) here.0 noted
    | inr was ↦ keeps k.len (are.each k i was)
  ];
}

-- ---- a key is taken out, and another gets another place

-- what has a place after a key was taken out had it before, and is another key
pub taken_cases : (old new : Index) (key k : Key) (i : ℕ) → map.Updates key_cmp old.places new.places key None → place_at new k ≡ Some i
    → (key ≡ k → ⊥) × (place_at old k ≡ Some i)
taken_cases old new key k i update is =
    let told : place_at new k ≡ cond (is_eq (key_cmp key k)) None (place_at old k) = update.0 k in
    elim (cases_Bool (is_eq (key_cmp key k))) [
      | inl here ↦ let none : place_at new k ≡ None = rw here at told in absurd (none-some i (sym none ∙ is))
      | inr apart ↦ let got : place_at new k ≡ place_at old k = rw apart at told in
          (λ same. both_ways _ apart (ap (λ q. is_eq (key_cmp q k)) same ∙ key_self k), sym got ∙ is)
    ]

-- after a key got a place, or lost it, another key has what it had
pub updated_other : (old new : Index) (key k : Key) (o : Option ℕ) → map.Updates key_cmp old.places new.places key o → (key ≡ k → ⊥)
    → place_at new k ≡ place_at old k
updated_other old new key k o update other =
    let told : place_at new k ≡ cond (is_eq (key_cmp key k)) o (place_at old k) = update.0 k in
    elim (cases_Bool (is_eq (key_cmp key k))) [
      | inl here ↦ absurd (other (key_same key k here))
      | inr apart ↦ rw apart at told
    ]

-- a key that has no place can be taken out without a change
pub taken_none : (old new : Index) (key : Key) → map.Updates key_cmp old.places new.places key None → place_at old key ≡ None
    → (k : Key) → place_at new k ≡ place_at old k
taken_none old new key update none k =
    elim (cases_Bool (is_eq (key_cmp key k))) [
      | inl here ↦
          let told : place_at new k ≡ cond (is_eq (key_cmp key k)) None (place_at old k) = update.0 k in
          let gone : place_at new k ≡ None = rw here at told in
          gone ∙ (sym none ∙ ap (place_at old) (key_same key k here))
      | inr apart ↦ updated_other old new key k None update (λ same.
          both_ways _ apart (ap (λ q. is_eq (key_cmp q k)) same ∙ key_self k))
    ]

pub lengths_taken : (old new : Index) (key : Key) → AreLengths old → new.lengths.items ≡ old.lengths.items
    → map.Updates key_cmp old.places new.places key None → AreLengths new
lengths_taken old new key are same update = record {
  falling = subst AreFalling (sym same) are.falling;
  each = λ k i is. subst (λ ls. HasLength ls k.len) (sym same) (are.each k i (taken_cases old new key k i update is).1);
}

-- a key that has a place has its length among those of the keys
length_there : (old : Index) (key : Key) (o : Option ℕ) → AreLengths old → place_at old key ≡ o → is_some o ≡ true
    → HasLength old.lengths.items key.len
length_there old key None are at some = absurd (false≢true some)
length_there old key (Some i) are at some = are.each key i at

pub lengths_moved : (old new : Index) (key : Key) (n : ℕ) → AreLengths old → new.lengths.items ≡ old.lengths.items
    → is_some (place_at old key) ≡ true → map.Updates key_cmp old.places new.places key (Some n) → AreLengths new
lengths_moved old new key n are same there update =
    lengths_put old new key n are (subst AreFalling (sym same) are.falling)
    (λ len has. subst (λ ls. HasLength ls len) (sym same) has)
    (subst (λ ls. HasLength ls key.len) (sym same) (length_there old key (place_at old key) are refl there)) update

-- ---- the longest key of an address

-- none of the keys of the first lengths has a place
abbrev pub HasNoneBefore : Index → ℕ → ℕ → Type 0
HasNoneBefore index a n = (i : ℕ) → i < n → place_at index (key_at a (get_or index.lengths.items i 0)) ≡ None

pub known : (o : Option ℕ) → ((i : ℕ) → o ≡ Some i → ⊥) → o ≡ None
known None never = refl
known (Some i) never = absurd (never i refl)

pub longest_found : (index : Index) (a n i : ℕ) → AreLengths index → n < length index.lengths.items → HasNoneBefore index a n
    → place_at index (key_at a (get_or index.lengths.items n 0)) ≡ Some i → IsLongest index a i
longest_found index a n i are within none is =
    let ls = index.lengths.items in
    record {
      len = get_or ls n 0;
      is = is;
      none_longer = λ longer above. known (place_at index (key_at a longer)) (λ j there.
          let has = are.each (key_at a longer) j there in
          elim (cases_lt has.0 n) [
            | inl before ↦
                none-some j (sym (none has.0 before) ∙ ap (λ l. place_at index (key_at a l)) has.2 ∙ there)
            | inr past ↦ elim (cases_eq has.0 n) [
              | inl same ↦ let e : get_or ls n 0 ≡ longer = ap (λ k. get_or ls k 0) (sym same) ∙ has.2 in omega (arith, e, above)
              | inr apart ↦ omega (arith, are.falling.fall n has.0 (omega (arith, past, apart)) has.1, has.2, above)
            ]
          ]);
    }

-- the first lengths give no shorter key, and all of them where one has a place
abbrev pub HasNoneShorter : Index → ℕ → ℕ → ℕ → Type 0
HasNoneShorter index a len n = (i : ℕ) → i < n → ¬ HasBelow index a len (get_or index.lengths.items i 0)

pub none_shorter : (index : Index) (a len n : ℕ) → AreLengths index → length index.lengths.items ≤ n → HasNoneShorter index a len n
    → ¬ HasShorter index a len
none_shorter index a len n are all none shorter =
    by_place (place_at index (key_at a shorter.0)) refl shorter.1.1
  where
    by_place : (o : Option ℕ) → place_at index (key_at a shorter.0) ≡ o → is_some o ≡ true → ⊥
    by_place None at some = false≢true some
    by_place (Some j) at some =
        let has = are.each (key_at a shorter.0) j at in
        none has.0 (omega (arith, has.1, all)) (subst (HasBelow index a len) (sym has.2) shorter.1)

pub longest_none : (index : Index) (a n : ℕ) → AreLengths index → length index.lengths.items ≤ n → HasNoneBefore index a n
    → HasNoKey index a
longest_none index a n are all none len =
    known (place_at index (key_at a len)) (λ j there.
    let has = are.each (key_at a len) j there in
    none-some j (sym (none has.0 (omega (arith, has.1, all))) ∙ ap (λ l. place_at index (key_at a l)) has.2 ∙ there))

-- ---- entries

pub place_of : {X : Type 0} (xs : List X) (x : X) → Contains xs x → (k : ℕ) × (slice_get xs k ≡ Some x)
place_of xs x c = (c.0, slice_get-get_or xs c.0 x c.1 ∙ ap Some c.2)

pub contains_at : {X : Type 0} (xs : List X) (x : X) (k : ℕ) → slice_get xs k ≡ Some x → Contains xs x
contains_at xs x k e = (k, slice_get_within xs k x e, get_or_from_slice_get xs k x x e)

get_left : {X : Type 0} (xs : List X) (y x : X) (k : ℕ) → slice_get xs k ≡ Some x → slice_get (xs ++ y ∷ []) k ≡ Some x
get_left [] y x k h = absurd (none-some x h)
get_left (z ∷ xs) y x zero h = h
get_left (z ∷ xs) y x (suc k) h = get_left xs y x k h

get_last : {X : Type 0} (xs : List X) (y : X) → slice_get (xs ++ y ∷ []) (length xs) ≡ Some y
get_last [] y = refl
get_last (z ∷ xs) y = get_last xs y

get_cases : {X : Type 0} (xs : List X) (y x : X) (k : ℕ) → slice_get (xs ++ y ∷ []) k ≡ Some x
    → (slice_get xs k ≡ Some x) ⊎ ((k ≡ length xs) × (y ≡ x))
get_cases [] y x zero h = inr (refl, cc)
get_cases [] y x (suc k) h = absurd (none-some x h)
get_cases (z ∷ xs) y x zero h = inl h
get_cases (z ∷ xs) y x (suc k) h =
    elim (get_cases xs y x k h) [
      | inl old ↦ inl old
      | inr new ↦ inr (ap suc new.0, new.1)
    ]

holds_by_key : (p : PrefixValue) (a len : ℕ) → key_of p ≡ key_at a len → Holds p a
unfolding Holds
holds_by_key p a len same =
    let is_len : p.len ≡ len = ap (λ (k : Key). k.len) same in
    let bits : p.value / 2 ^ (128 - p.len) ≡ a / 2 ^ (128 - len) = ap (λ (k : Key). k.bits) same in
    sym (bits ∙ ap (λ l. a / 2 ^ (128 - l)) (sym is_len))

key_by_holds : (p : PrefixValue) (a : ℕ) → Holds p a → key_of p ≡ key_at a p.len
unfolding Holds
key_by_holds p a held = λ i. record { len = p.len; bits = sym held i }

pub one_prefix : (p q : PrefixValue) → IsPrefix p → IsPrefix q → key_of p ≡ key_of q → p ≡ q
one_prefix p q is_p is_q same =
    let len : p.len ≡ q.len = ap (λ (k : Key). k.len) same in
    same_prefix p q (same_value p q q.value is_p is_q len (holds_by_key p q.value q.len same) (Holds_own_value q)) len

module _ {T : Type 0} where
  pub index_put : (es : List (PrefixValue × T)) (old new : Index) (p : PrefixValue) (t : T) → IsIndex es old
      → place_at old (key_of p) ≡ None → map.Updates key_cmp old.places new.places (key_of p) (Some (length es))
      → IsIndex (es ++ (p, t) ∷ []) new
  index_put es old new p t is new_key update = record {
    each = λ i e h. elim (get_cases es (p, t) e i h) [
      | inl was ↦ put_other old new (key_of p) (key_of e.0) (length es) i update new_key (is.each i e was)
      | inr last ↦ subst (λ n. place_at new (key_of e.0) ≡ Some n) (sym last.0)
          (subst (λ (f : PrefixValue × T). place_at new (key_of f.0) ≡ Some (length es)) last.1 update.1)
    ];
    leads = λ k i h. elim (put_cases old new (key_of p) k (length es) i update h) [
      | inl here ↦ ((p, t), subst (λ n. slice_get (es ++ (p, t) ∷ []) n ≡ Some (p, t)) here.1 (get_last es (p, t)), here.0)
      | inr was ↦ let it = is.leads k i was in (it.0, get_left es (p, t) it.0 i it.1, it.2)
    ];
  }

  pub index_same : (es : List (PrefixValue × T)) (old new : Index) → IsIndex es old
      → ((k : Key) → place_at new k ≡ place_at old k) → IsIndex es new
  index_same es old new is same = record {
    each = λ i e h. same (key_of e.0) ∙ is.each i e h;
    leads = λ k i h. is.leads k i (sym (same k) ∙ h);
  }

  -- ---- whether a prefix is there

  pub has_by_place : (es : List (PrefixValue × T)) (index : Index) (p : PrefixValue) (i : ℕ) → IsTable es → IsIndex es index → IsPrefix p
      → place_at index (key_of p) ≡ Some i → HasPrefix es p
  has_by_place es index p i table is is_prefix at =
      let it = is.leads (key_of p) i at in
      let among = contains_at es it.0 i it.1 in
      (it.0.1, subst (λ (q : PrefixValue). Contains es (q, it.0.1)) (one_prefix it.0.0 p (table.prefixes it.0 among) is_prefix it.2) among)

  place_by_has : (es : List (PrefixValue × T)) (index : Index) (p : PrefixValue) → IsIndex es index → HasPrefix es p
      → (i : ℕ) × (place_at index (key_of p) ≡ Some i)
  place_by_has es index p is has = let at = place_of es (p, has.0) has.1 in (at.0, is.each at.0 (p, has.0) at.1)

  pub has_tells : (es : List (PrefixValue × T)) (index : Index) (p : PrefixValue) (o : Option ℕ) (b : Bool) → IsTable es → IsIndex es index
      → IsPrefix p → place_at index (key_of p) ≡ o → b ≡ is_some o → IsTrue b ↔ HasPrefix es p
  has_tells es index p None b table is is_prefix at told =
      (λ t. absurd (both_ways _ told t), λ h. absurd (let it = place_by_has es index p is h in none-some it.0 (sym at ∙ it.1)))
  has_tells es index p (Some i) b table is is_prefix at told = (λ t. has_by_place es index p i table is is_prefix at, λ h. told)

  pub new_key : (es : List (PrefixValue × T)) (index : Index) (p : PrefixValue) → IsTable es → IsIndex es index → IsPrefix p
      → ¬ HasPrefix es p → place_at index (key_of p) ≡ None
  new_key es index p table is is_prefix new =
      known (place_at index (key_of p)) (λ i at. new (has_by_place es index p i table is is_prefix at))

  -- ---- the best entry

  pub best_by_longest : (es : List (PrefixValue × T)) (index : Index) (a i : ℕ) (e : PrefixValue × T) → IsIndex es index
      → IsLongest index a i → slice_get es i ≡ Some e → IsBest es a e
  best_by_longest es index a i e is longest at =
      let it = is.leads (key_at a longest.len) i longest.is in
      let same : it.0 ≡ e = some_same it.0 e (sym it.1 ∙ at) in
      let key : key_of e.0 ≡ key_at a longest.len = subst (λ (f : PrefixValue × T). key_of f.0 ≡ key_at a longest.len) same it.2 in
      record {
        is_there = contains_at es e i at;
        holds = holds_by_key e.0 a longest.len key;
        none_longer = λ other c held.
            let there = place_of es other c in
            let found : place_at index (key_at a other.0.len) ≡ Some there.0 =
            subst (λ (k : Key). place_at index k ≡ Some there.0) (key_by_holds other.0 a held) (is.each there.0 other there.1) in
            let len : e.0.len ≡ longest.len = ap (λ (k : Key). k.len) key in
            elim (cases_lt longest.len other.0.len) [
              | inl longer ↦ absurd (none-some there.0 (sym (longest.none_longer other.0.len longer) ∙ found))
              | inr not_longer ↦ omega (arith, not_longer, len)
            ];
      }
    where
      some_same : {X : Type 0} (x y : X) → Some x ≡ Some y → x ≡ y
      some_same x y h = cc

  pub place_within : (es : List (PrefixValue × T)) (index : Index) (a i : ℕ) → IsIndex es index → IsLongest index a i → i < length es
  place_within es index a i is longest = let it = is.leads (key_at a longest.len) i longest.is in slice_get_within es i it.0 it.1

  pub none_by_key : (es : List (PrefixValue × T)) (index : Index) (a : ℕ) → IsIndex es index → HasNoKey index a → HoldsNone es a
  none_by_key es index a is none e c held =
      let there = place_of es e c in
      let found : place_at index (key_at a e.0.len) ≡ Some there.0 =
      subst (λ (k : Key). place_at index k ≡ Some there.0) (key_by_holds e.0 a held) (is.each there.0 e there.1) in
      none-some there.0 (sym (none e.0.len) ∙ found)

  -- ---- whether a prefix lies inside another

  around_by_shorter : (es : List (PrefixValue × T)) (index : Index) (p : PrefixValue) (len : ℕ) (o : Option ℕ) → IsIndex es index
      → len < p.len → place_at index (key_at p.value len) ≡ o → is_some o ≡ true → HasAround es p
  around_by_shorter es index p len None is less at some = absurd (false≢true some)
  around_by_shorter es index p len (Some i) is less at some =
      let it = is.leads (key_at p.value len) i at in
      let is_len : it.0.0.len ≡ len = ap (λ (k : Key). k.len) it.2 in
      (it.0, contains_at es it.0 i it.1, (omega (arith, is_len, less), holds_by_key it.0.0 p.value len it.2))

  shorter_by_around : (es : List (PrefixValue × T)) (index : Index) (p : PrefixValue) → IsIndex es index → HasAround es p
      → HasShorter index p.value p.len
  shorter_by_around es index p is around =
      let e = around.0 in
      let there = place_of es e around.1 in
      let found : place_at index (key_at p.value e.0.len) ≡ Some there.0 =
      subst (λ (k : Key). place_at index k ≡ Some there.0) (key_by_holds e.0 p.value around.2.1) (is.each there.0 e there.1) in
      (e.0.len, (around.2.0, ap is_some found))

  pub around_tells : (es : List (PrefixValue × T)) (index : Index) (p : PrefixValue) → IsIndex es index
      → HasShorter index p.value p.len ↔ HasAround es p
  around_tells es index p is = (
    λ h. around_by_shorter es index p h.0 (place_at index (key_at p.value h.0)) is h.1.0 refl h.1.1,
    λ h. shorter_by_around es index p is h,
  )

  -- ---- the whole table

  pub whole_put : (es now : List (PrefixValue × T)) (old new : Index) (key : Key) (p : PrefixValue) (t : T) → IsWhole es old → IsPrefix p
      → ¬ HasPrefix es p → AreLengths new → key ≡ key_of p → now ≡ es ++ (p, t) ∷ []
      → map.Updates key_cmp old.places new.places key (Some (length es)) → IsWhole now new
  whole_put es now old new key p t whole is_prefix is_new lengths is_key is_now update =
      subst (λ xs. IsWhole xs new) (sym is_now)
      (record {
        table = is_table_push es p t whole.table is_prefix is_new;
        lengths = lengths;
        places = index_put es old new p t whole.places (new_key es old p whole.table whole.places is_prefix is_new)
            (subst (λ (k : Key). map.Updates key_cmp old.places new.places k (Some (length es))) is_key update);
      })

  pub whole_same : (es now : List (PrefixValue × T)) (old new : Index) → IsWhole es old → AreLengths new → now ≡ es
      → ((k : Key) → place_at new k ≡ place_at old k) → IsWhole now new
  whole_same es now old new whole lengths is_now same =
      subst (λ xs. IsWhole xs new) (sym is_now)
      (record { table = whole.table; lengths = lengths; places = index_same es old new whole.places same })
