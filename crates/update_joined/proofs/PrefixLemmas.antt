-- An index of prefixes: what it has stays, and where nothing is found no entry meets the prefix.
use Rattle.std.proofs.Common.{◌≡◌, ℕ, ◌+◌, ◌-◌, ◌*◌, ◌/◌, ◌%◌, ◌^◌, ◌<◌, ◌≤◌, ◌⊎◌, inl, inr, Less, Equal, min, Bool, true, false, ◌==◌, ◌&&◌, ◌||◌, cond, List, [], ◌∷◌, ◌++◌, length, take, get_or, All, refl, sym, ap, ap₂, ◌∙◌, subst, arith}
use Rattle.std.proofs.Math.Nat.{le-min}
use Rattle.std.proofs.lemmas.Bool.{and_parts, or_from, or_left, or_right, eqb-true, eq-eqb, both_ways, false_from_ne_true, cases_lt}
use Rattle.std.proofs.lemmas.List.{take_more}
use Rattle.std.proofs.lemmas.List.Elements.{All-push}
use Rattle.std.proofs.lemmas.List.Folds.{list_any-append}
use Rattle.std.proofs.lemmas.Nat.{shr_split, mod_below, pow_pos}
use Rattle.std.specs.List.{list_any}
use Rattle.std.specs.declared.cmp.Ordering.{Ordering}
use Rattle.std.specs.Cmp.{nat_cmp_is}
use Rattle.std.specs.Ordering.{nat_cmp, bool_cmp, ordering_then, is_eq, is_gt}
use Rattle.std.specs.BTreeSet.{BTreeSet}
use Rattle.std.specs.BTreeSet as set
use Rattle.v6_addr.specs.Address.{PrefixValue, holds_address}
use Rattle.v6_addr.specs.AddressTerms.{IsPrefix}
use Rattle.srv6_rules.specs.declared.family.Family.{Family}
use Rattle.srv6_rules.specs.declared.family.Family.TheVariants as families
use Rattle.net_model.specs.NetworkRules.{same_family}
use Rattle.update_spec.specs.Planning.{in_one_table}
use Rattle.update_theory.proofs.PublicLaws.{families_are, none_less}
use Rattle.update_joined.specs.declared.entry.PlanEntry.{PlanEntry}
use Rattle.update_joined.specs.declared.prefix_index.PrefixKey.{PrefixKey}
use Rattle.update_joined.specs.declared.prefix_index.PrefixIndex.{PrefixIndex}
use Rattle.update_joined.specs.JoinedEntries.{item_of}
use Rattle.update_joined.specs.PrefixKeys.{prefix_key_cmp, key_of, key_at, has_key, has_length, are_meeting, IsIndexed}

-- ---- the order of keys

not_above : (x y : ℕ) → x ≤ y → is_gt (nat_cmp x y) ≡ false
not_above x y below = by_order (cases_lt x y)
  where
    by_order : (x < y) ⊎ (y ≤ x) → is_gt (nat_cmp x y) ≡ false
    by_order (inl h) = ap is_gt (sym (nat_cmp_is x y Less h))
    by_order (inr h) = ap is_gt (sym (nat_cmp_is x y Equal (omega (arith, below, h))))

nat_same : (x : ℕ) → nat_cmp x x ≡ Equal
nat_same x = sym (nat_cmp_is x x Equal refl)

bool_same : (b : Bool) → bool_cmp b b ≡ Equal
bool_same true = refl
bool_same false = refl

then_next : (o p : Ordering) → o ≡ Equal → is_gt (ordering_then o p) ≡ is_gt p
then_next o p e = ap (λ (q : Ordering). is_gt (ordering_then q p)) e

-- keys of as many bits in one table are in the order of their bits
pub keys_rise : (e : PlanEntry) (len x y : ℕ) → x ≤ y → is_gt (prefix_key_cmp (key_of e len x) (key_of e len y)) ≡ false
keys_rise e len x y below =
    then_next (nat_cmp e.node e.node) _ (nat_same e.node)
    ∙ (then_next (nat_cmp e.table e.table) _ (nat_same e.table)
    ∙ (then_next (bool_cmp (same_family e.family families.V6) (same_family e.family families.V6)) _
    (bool_same (same_family e.family families.V6))
    ∙ (then_next (nat_cmp len len) (nat_cmp x y) (nat_same len) ∙ not_above x y below)))

-- ---- the last address

between : (base none rest value address top most last : ℕ) → base + none ≡ value → none ≡ 0 → base + rest ≡ address → rest < top
    → address < most → last ≡ min (value + (top - 1)) (most - 1) → (value ≤ address) × (address ≤ last)
between base none rest value address top most last is nothing sum below within e = (
  omega (arith, is, nothing, sum),
  subst (λ n. address ≤ n) (sym e) (le-min (omega (arith, is, nothing, sum, below)) (omega (arith, within))),
)

-- what a prefix holds is not below its first address, and not above the last
pub held_between : (p : PrefixValue) (last a : ℕ) → IsPrefix p → last ≡ min (p.value + (2 ^ (128 - p.len) - 1)) (2 ^ 128 - 1)
    → a < 2 ^ 128 → holds_address p a ≡ true → (p.value ≤ a) × (a ≤ last)
unfolding holds_address
held_between p last a is e within h =
    let k = 128 - p.len in
    let same : a / 2 ^ k ≡ p.value / 2 ^ k = eqb-true _ _ h in
    between (p.value / 2 ^ k * 2 ^ k) (p.value % 2 ^ k) (a % 2 ^ k) p.value a (2 ^ k) (2 ^ 128) last (shr_split p.value k) is.2
    (ap (λ n. n * 2 ^ k + a % 2 ^ k) (sym same) ∙ shr_split a k) (mod_below a (2 ^ k) (pow_pos k)) within e

pub first_not_above : (value top most last : ℕ) → value < most → last ≡ min (value + (top - 1)) (most - 1) → value ≤ last
first_not_above value top most last within e =
    subst (λ n. value ≤ n) (sym e) (le-min (omega arith) (omega (arith, within)))

-- ---- what is put in stays

pub any_more : {X : Type 0} (p : X → Bool) (xs ys : List X) → list_any p xs ≡ true → list_any p (xs ++ ys) ≡ true
any_more p xs ys h = list_any-append p xs ys ∙ or_left _ _ h

pub any_last : {X : Type 0} (p : X → Bool) (xs : List X) (x : X) → p x ≡ true → list_any p (xs ++ x ∷ []) ≡ true
any_last p xs x h = list_any-append p xs (x ∷ []) ∙ or_right _ _ (or_left _ _ h)

pub same_number_is : (n : ℕ) → (n == n) ≡ true
same_number_is n = eq-eqb n n refl

either : (b x : Bool) → x ≡ true → cond b true x ≡ true
either true x h = refl
either false x h = h

still_has : (old new : BTreeSet PrefixKey) (k q : PrefixKey) → set.Updates prefix_key_cmp old new k true
    → set.contains prefix_key_cmp old q ≡ true → set.contains prefix_key_cmp new q ≡ true
still_has old new k q update has = update.0 q ∙ either (is_eq (prefix_key_cmp k q)) _ has

pub still_indexed : (old new : PrefixIndex) (mid : BTreeSet PrefixKey) (k l : PrefixKey) (e : PlanEntry)
    → set.Updates prefix_key_cmp old.keys mid k true → set.Updates prefix_key_cmp mid new.keys l true
    → (has_length old.lengths.items e.prefix.len ≡ true → has_length new.lengths.items e.prefix.len ≡ true)
    → IsIndexed old e → IsIndexed new e
still_indexed old new mid k l e first second lengths is = record {
  within = is.within;
  prefix = still_has mid new.keys l _ second (still_has old.keys mid k _ first is.prefix);
  address = still_has mid new.keys l _ second (still_has old.keys mid k _ first is.address);
  length = lengths is.length;
}

pub now_indexed : (old mid : BTreeSet PrefixKey) (new : PrefixIndex) (k l : PrefixKey) (e : PlanEntry) → e.prefix.value < 2 ^ 128
    → k ≡ key_at e e.prefix.value e.prefix.len → l ≡ key_of e 128 e.prefix.value
    → set.Updates prefix_key_cmp old mid k true → set.Updates prefix_key_cmp mid new.keys l true
    → has_length new.lengths.items e.prefix.len ≡ true → IsIndexed new e
now_indexed old mid new k l e within is_prefix is_address first second length = record {
  within = within;
  prefix = still_has mid new.keys l _ second (subst (λ q. set.contains prefix_key_cmp mid q ≡ true) is_prefix first.1);
  address = subst (λ q. set.contains prefix_key_cmp new.keys q ≡ true) is_address second.1;
  length = length;
}

-- with one entry more, what was indexed before still is
pub indexed_more : (old new : PrefixIndex) (es : List PlanEntry) (n : ℕ) (d : PlanEntry) → n < length es → All (IsIndexed old) (take n es)
    → ((e : PlanEntry) → IsIndexed old e → IsIndexed new e) → IsIndexed new (get_or es n d) → All (IsIndexed new) (take (n + 1) es)
indexed_more old new es n d within before kept put =
    subst (All (IsIndexed new)) (sym (take_more es n d within))
    (All-push (IsIndexed new) (take n es) (get_or es n d) (λ k x below. kept _ (before k x below)) put)

-- ---- where nothing is found

one_table : (a b : PlanEntry) (len bits : ℕ) → in_one_table (item_of [] a) (item_of [] b) ≡ true → key_of b len bits ≡ key_of a len bits
one_table a b len bits h =
    let node = and_parts (a.node == b.node) _ h in
    let table = and_parts (a.table == b.table) _ node.1 in
    let key : ℕ → ℕ → Family → PrefixKey =
    λ n t f. record { node = n; table = t; is_ipv6 = same_family f families.V6; len = len; bits = bits } in
    sym (ap₂ (λ n t. key n t a.family) (eqb-true _ _ node.0) (eqb-true _ _ table.0)
    ∙ ap (key b.node b.table) (families_are a.family b.family table.1))

at_length : (p : ℕ → Bool) (lengths : List ℕ) (len : ℕ) → list_any p lengths ≡ false → has_length lengths len ≡ true → p len ≡ false
at_length p lengths len none has =
    false_from_ne_true (p len) (λ yes. both_ways _
    (none_less p (λ m. m == len) (λ m e. subst (λ n. p n ≡ true) (sym (eqb-true m len e)) yes) lengths none) has)

-- no prefix holds the address
none_around : (index : PrefixIndex) (a b : PlanEntry)
    → list_any (λ len. has_key index (key_at a a.prefix.value len)) index.lengths.items ≡ false → IsIndexed index b
    → in_one_table (item_of [] a) (item_of [] b) ≡ true → holds_address b.prefix a.prefix.value ≡ false
unfolding holds_address
none_around index a b none is same =
    let k = 128 - b.prefix.len in
    false_from_ne_true _ (λ h.
    both_ways _ (at_length (λ len. has_key index (key_at a a.prefix.value len)) index.lengths.items b.prefix.len none is.length)
    (subst (λ q. has_key index q ≡ true)
    (one_table a b b.prefix.len (b.prefix.value / 2 ^ k) same ∙ ap (key_of a b.prefix.len) (sym (eqb-true _ _ h))) is.prefix))

abbrev pub HasNoneInside : PrefixIndex → PlanEntry → Type 0
HasNoneInside index a =
    (value : ℕ) → value < 2 ^ 128 → holds_address a.prefix value ≡ true → has_key index (key_of a 128 value) ≡ false

-- the prefix holds no address
none_inside : (index : PrefixIndex) (a b : PlanEntry) → HasNoneInside index a → IsIndexed index b
    → in_one_table (item_of [] a) (item_of [] b) ≡ true → holds_address a.prefix b.prefix.value ≡ false
none_inside index a b none is same =
    false_from_ne_true _ (λ h.
    both_ways _ (none b.prefix.value is.within h)
    (subst (λ q. has_key index q ≡ true) (one_table a b 128 b.prefix.value same) is.address))

and_if : (x y : Bool) → (x ≡ true → y ≡ false) → (x && y) ≡ false
and_if true y f = f refl
and_if false y f = refl

pub none_meets : (index : PrefixIndex) (a b : PlanEntry)
    → list_any (λ len. has_key index (key_at a a.prefix.value len)) index.lengths.items ≡ false → HasNoneInside index a
    → IsIndexed index b → are_meeting a b ≡ false
none_meets index a b around inside is =
    and_if (in_one_table (item_of [] a) (item_of [] b)) _
    (λ same. or_from _ _ (none_inside index a b inside is same) (none_around index a b around is same))
