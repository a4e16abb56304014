-- SIDs and blocks of a network, one by one.
use Rattle.std.proofs.Common.{◌≡◌, ℕ, zero, suc, ◌+◌, ◌≤◌, Bool, true, false, not, ◌==◌, ◌&&◌, ◌||◌, if◌then◌else◌, List, [], ◌∷◌, length, drop, Some, refl, sym, ◌∙◌, ap, arith}
use Rattle.std.specs.List.{filter, slice_get, find, list_any}
use Rattle.std.proofs.lemmas.Bool.{and_parts, ne_eqb}
use Rattle.srv6_rules.specs.declared.sid.Csid.{Csid}
use Rattle.srv6_rules.specs.declared.sid.Csid.TheVariants.{Plain, Next, Replace}
use Rattle.srv6_rules.specs.declared.sid.SidEntry.{SidEntry}
use Rattle.srv6_rules.specs.Behaviours.{goes_on}
use Rattle.v6_addr.specs.Address.{PrefixValue}
use Rattle.net_model.specs.NetworkRules.{same_prefix}
use Rattle.list_pack.specs.LegsValueTerms.{is_compressed}
use Rattle.list_pack.specs.SidLists.{either_csid, csid_among, on_prefix, going_on}

-- an item and those after it
pub drop_item : {X : Type 0} (xs : List X) (n : ℕ) (x : X) → slice_get xs n ≡ Some x → drop n xs ≡ x ∷ drop (n + 1) xs
drop_item [] n x e = absurd (cc)
drop_item (y ∷ ys) zero x e =
    let same : y ≡ x = cc in
    ap (λ z. z ∷ ys) same
drop_item (y ∷ ys) (suc n) x e =
    let more : suc n + 1 ≡ suc (n + 1) = omega arith in
    drop_item ys n x e ∙ ap (λ k. x ∷ drop k (y ∷ ys)) (sym more)

pub drop_past : {X : Type 0} (xs : List X) (n : ℕ) → length xs ≤ n → drop n xs ≡ []
drop_past [] zero h = refl
drop_past [] (suc n) h = refl
drop_past (x ∷ xs) zero h = absurd (omega (arith, h))
drop_past (x ∷ xs) (suc n) h = drop_past xs n (omega (arith, h))

-- ---- tests of one SID

pub going_skip : (p : PrefixValue) (s : SidEntry) (ss : List SidEntry) → (same_prefix s.prefix p && goes_on s) ≡ false
    → going_on (on_prefix (s ∷ ss) p) ≡ going_on (on_prefix ss p)
going_skip p s ss e = by (same_prefix s.prefix p) (goes_on s) refl refl e
  where
    by : (a b : Bool) → same_prefix s.prefix p ≡ a → goes_on s ≡ b → (a && b) ≡ false
        → filter goes_on (if a then s ∷ on_prefix ss p else on_prefix ss p) ≡ going_on (on_prefix ss p)
    by true true x y f = absurd (cc)
    by true false x y f = ap (λ (t : Bool). if t then s ∷ going_on (on_prefix ss p) else going_on (on_prefix ss p)) y
    by false b x y f = refl

pub going_take : (p : PrefixValue) (s : SidEntry) (ss : List SidEntry) → (same_prefix s.prefix p && goes_on s) ≡ true
    → going_on (on_prefix (s ∷ ss) p) ≡ s ∷ going_on (on_prefix ss p)
going_take p s ss e =
    let both = and_parts (same_prefix s.prefix p) (goes_on s) e in
    ap (λ (t : Bool). filter goes_on (if t then s ∷ on_prefix ss p else on_prefix ss p)) both.0
    ∙ ap (λ (t : Bool). if t then s ∷ going_on (on_prefix ss p) else going_on (on_prefix ss p)) both.1

pub either_first : (c d : Csid) → is_compressed c ≡ true → either_csid c d ≡ c
either_first Plain d e = absurd (cc)
either_first Next d e = refl
either_first Replace d e = refl

either_other : (c d : Csid) → is_compressed c ≡ false → either_csid c d ≡ d
either_other Plain d e = refl
either_other Next d e = absurd (cc)
either_other Replace d e = absurd (cc)

any_skip : (p : PrefixValue) (s : SidEntry) (ss : List SidEntry) → (same_prefix s.prefix p && is_compressed s.csid) ≡ false
    → csid_among (on_prefix (s ∷ ss) p) ≡ csid_among (on_prefix ss p)
any_skip p s ss e = by (same_prefix s.prefix p) (is_compressed s.csid) refl refl e
  where
    by : (a b : Bool) → same_prefix s.prefix p ≡ a → is_compressed s.csid ≡ b → (a && b) ≡ false
        → csid_among (if a then s ∷ on_prefix ss p else on_prefix ss p) ≡ csid_among (on_prefix ss p)
    by true true x y f = absurd (cc)
    by true false x y f = either_other s.csid (csid_among (on_prefix ss p)) y
    by false b x y f = refl

any_take : (p : PrefixValue) (s : SidEntry) (ss : List SidEntry) → same_prefix s.prefix p ≡ true → is_compressed s.csid ≡ true
    → csid_among (on_prefix (s ∷ ss) p) ≡ s.csid
any_take p s ss x y =
    ap (λ (t : Bool). csid_among (if t then s ∷ on_prefix ss p else on_prefix ss p)) x
    ∙ either_first s.csid (csid_among (on_prefix ss p)) y

goers_skip : (p : PrefixValue) (s : SidEntry) (ss : List SidEntry)
    → (same_prefix s.prefix p && (goes_on s && is_compressed s.csid)) ≡ false
    → csid_among (going_on (on_prefix (s ∷ ss) p)) ≡ csid_among (going_on (on_prefix ss p))
goers_skip p s ss e = by (same_prefix s.prefix p) (goes_on s) (is_compressed s.csid) refl refl refl e
  where
    by : (a b c : Bool) → same_prefix s.prefix p ≡ a → goes_on s ≡ b → is_compressed s.csid ≡ c → (a && (b && c)) ≡ false
        → csid_among (filter goes_on (if a then s ∷ on_prefix ss p else on_prefix ss p)) ≡ csid_among (going_on (on_prefix ss p))
    by true true true x y z f = absurd (cc)
    by true true false x y z f =
        ap (λ (t : Bool). csid_among (if t then s ∷ going_on (on_prefix ss p) else going_on (on_prefix ss p))) y
        ∙ either_other s.csid (csid_among (going_on (on_prefix ss p))) z
    by true false c x y z f =
        ap (λ (t : Bool). csid_among (if t then s ∷ going_on (on_prefix ss p) else going_on (on_prefix ss p))) y
    by false b c x y z f = refl

-- ---- loops over the SIDs of a network

-- what is still to be looked at says all
abbrev pub GoersLeft : List SidEntry → PrefixValue → ℕ → Type 0
GoersLeft sids p n = going_on (on_prefix sids p) ≡ going_on (on_prefix (drop n sids) p)

pub goers_next : (sids : List SidEntry) (p : PrefixValue) (n : ℕ) (s : SidEntry) → slice_get sids n ≡ Some s → GoersLeft sids p n
    → (same_prefix s.prefix p && goes_on s) ≡ false → GoersLeft sids p (n + 1)
goers_next sids p n s at left e =
    left ∙ ap (λ (ss : List SidEntry). going_on (on_prefix ss p)) (drop_item sids n s at) ∙ going_skip p s (drop (n + 1) sids) e

pub goers_found : (sids : List SidEntry) (p : PrefixValue) (n : ℕ) (s : SidEntry) → slice_get sids n ≡ Some s → GoersLeft sids p n
    → (same_prefix s.prefix p && goes_on s) ≡ true → true ≡ not (length (going_on (on_prefix sids p)) == 0)
goers_found sids p n s at left e =
    let all = left ∙ ap (λ (ss : List SidEntry). going_on (on_prefix ss p)) (drop_item sids n s at)
    ∙ going_take p s (drop (n + 1) sids) e in
    let some : (length (s ∷ going_on (on_prefix (drop (n + 1) sids) p)) == 0) ≡ false = ne_eqb _ 0 (λ e. omega (arith, e)) in
    sym (ap (λ (ss : List SidEntry). not (length ss == 0)) all ∙ ap not some)

abbrev pub GoingLeft : List SidEntry → PrefixValue → ℕ → Type 0
GoingLeft sids p n = csid_among (going_on (on_prefix sids p)) ≡ csid_among (going_on (on_prefix (drop n sids) p))

pub going_next : (sids : List SidEntry) (p : PrefixValue) (n : ℕ) (s : SidEntry) → slice_get sids n ≡ Some s → GoingLeft sids p n
    → (same_prefix s.prefix p && (goes_on s && is_compressed s.csid)) ≡ false → GoingLeft sids p (n + 1)
going_next sids p n s at left e =
    left ∙ ap (λ (ss : List SidEntry). csid_among (going_on (on_prefix ss p))) (drop_item sids n s at)
    ∙ goers_skip p s (drop (n + 1) sids) e

pub going_found : (sids : List SidEntry) (p : PrefixValue) (n : ℕ) (s : SidEntry) → slice_get sids n ≡ Some s → GoingLeft sids p n
    → (same_prefix s.prefix p && (goes_on s && is_compressed s.csid)) ≡ true → s.csid ≡ csid_among (going_on (on_prefix sids p))
going_found sids p n s at left e =
    let one = and_parts (same_prefix s.prefix p) (goes_on s && is_compressed s.csid) e in
    let two = and_parts (goes_on s) (is_compressed s.csid) one.1 in
    let both : (same_prefix s.prefix p && goes_on s) ≡ true =
    ap (λ (t : Bool). t && goes_on s) one.0 ∙ two.0 in
    let all = left ∙ ap (λ (ss : List SidEntry). csid_among (going_on (on_prefix ss p))) (drop_item sids n s at)
    ∙ ap csid_among (going_take p s (drop (n + 1) sids) both)
    ∙ either_first s.csid (csid_among (going_on (on_prefix (drop (n + 1) sids) p))) two.1 in
    sym all

abbrev pub AnyLeft : List SidEntry → PrefixValue → ℕ → Type 0
AnyLeft sids p n = csid_among (on_prefix sids p) ≡ csid_among (on_prefix (drop n sids) p)

pub any_next : (sids : List SidEntry) (p : PrefixValue) (n : ℕ) (s : SidEntry) → slice_get sids n ≡ Some s → AnyLeft sids p n
    → (same_prefix s.prefix p && is_compressed s.csid) ≡ false → AnyLeft sids p (n + 1)
any_next sids p n s at left e =
    left ∙ ap (λ (ss : List SidEntry). csid_among (on_prefix ss p)) (drop_item sids n s at) ∙ any_skip p s (drop (n + 1) sids) e

pub any_found : (sids : List SidEntry) (p : PrefixValue) (n : ℕ) (s : SidEntry) → slice_get sids n ≡ Some s → AnyLeft sids p n
    → (same_prefix s.prefix p && is_compressed s.csid) ≡ true → s.csid ≡ csid_among (on_prefix sids p)
any_found sids p n s at left e =
    let one = and_parts (same_prefix s.prefix p) (is_compressed s.csid) e in
    sym (left ∙ ap (λ (ss : List SidEntry). csid_among (on_prefix ss p)) (drop_item sids n s at)
    ∙ any_take p s (drop (n + 1) sids) one.0 one.1)

-- ---- a search through a list

pub find_next : {X : Type 0} (test : X → Bool) (xs : List X) (n : ℕ) (x : X) → slice_get xs n ≡ Some x
    → find test xs ≡ find test (drop n xs) → test x ≡ false → find test xs ≡ find test (drop (n + 1) xs)
find_next test xs n x at left e =
    left ∙ ap (λ ys. find test ys) (drop_item xs n x at)
    ∙ ap (λ (t : Bool). if t then Some x else find test (drop (n + 1) xs)) e

pub find_found : {X : Type 0} (test : X → Bool) (xs : List X) (n : ℕ) (x : X) → slice_get xs n ≡ Some x
    → find test xs ≡ find test (drop n xs) → test x ≡ true → Some x ≡ find test xs
find_found test xs n x at left e =
    sym (left ∙ ap (λ ys. find test ys) (drop_item xs n x at)
    ∙ ap (λ (t : Bool). if t then Some x else find test (drop (n + 1) xs)) e)

-- ---- a test that some item passes

pub some_next : {X : Type 0} (test : X → Bool) (xs : List X) (n : ℕ) (x : X) → slice_get xs n ≡ Some x
    → list_any test xs ≡ list_any test (drop n xs) → test x ≡ false → list_any test xs ≡ list_any test (drop (n + 1) xs)
some_next test xs n x at left e =
    left ∙ ap (λ ys. list_any test ys) (drop_item xs n x at) ∙ ap (λ (t : Bool). t || list_any test (drop (n + 1) xs)) e

pub some_found : {X : Type 0} (test : X → Bool) (xs : List X) (n : ℕ) (x : X) → slice_get xs n ≡ Some x
    → list_any test xs ≡ list_any test (drop n xs) → test x ≡ true → true ≡ list_any test xs
some_found test xs n x at left e =
    sym (left ∙ ap (λ ys. list_any test ys) (drop_item xs n x at) ∙ ap (λ (t : Bool). t || list_any test (drop (n + 1) xs)) e)
