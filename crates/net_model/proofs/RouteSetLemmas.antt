-- The keys of routes are one exactly where the routes are the same.
use Rattle.std.proofs.Common.{◌≡◌, ℕ, Bool, true, false, ◌==◌, ◌&&◌, ◌||◌, cond, List, [], ◌∷◌, ◌++◌, refl, sym, ap, ◌∙◌, arith}
use Rattle.std.proofs.lemmas.Bool.Decides.{nat_tests}
use Rattle.std.proofs.lemmas.List.Folds.{list_any-append}
use Rattle.std.specs.declared.cmp.Ordering.{Ordering}
use Rattle.std.specs.Ordering.{nat_cmp, bool_cmp, ordering_then, is_eq}
use Rattle.std.specs.declared.cmp.Ordering.TheVariants.{Less, Equal, Greater}
use Rattle.std.specs.List.{list_any}
use Rattle.std.specs.BTreeSet.{BTreeSet}
use Rattle.std.specs.BTreeSet as tree
use Rattle.v6_addr.specs.Address.{PrefixValue}
use Rattle.srv6_rules.specs.declared.family.Family.{Family}
use Rattle.srv6_rules.specs.declared.family.Family.TheVariants as families
use Rattle.net_model.specs.declared.parts.Route.{Route}
use Rattle.net_model.specs.declared.route_set.EntryKey.{EntryKey}
use Rattle.net_model.specs.NetworkRules.{same_family, same_route}
use Rattle.net_model.specs.NetworkJudging.{stands_before}
use Rattle.net_model.specs.EntryKeys.{entry_key_cmp, entry_key, key_of, HasKeys}

then_is_eq : (o p : Ordering) → is_eq (ordering_then o p) ≡ (is_eq o && is_eq p)
then_is_eq Less p = refl
then_is_eq Equal p = refl
then_is_eq Greater p = refl

pub number_is_eq : (m n : ℕ) → is_eq (nat_cmp m n) ≡ (m == n)
number_is_eq m n = grind (arith, nat_tests)

pub family_is_eq : (f g : Family) → is_eq (bool_cmp (same_family f families.V6) (same_family g families.V6)) ≡ same_family f g
family_is_eq families.V6 families.V6 = refl
family_is_eq families.V6 families.V4 = refl
family_is_eq families.V4 families.V6 = refl
family_is_eq families.V4 families.V4 = refl

pub both_eq : (o p : Ordering) (a b : Bool) → is_eq o ≡ a → is_eq p ≡ b → is_eq (ordering_then o p) ≡ (a && b)
both_eq o p a b e f = then_is_eq o p ∙ (ap (λ c. c && is_eq p) e ∙ ap (λ c. a && c) f)

pub entry_keys_tell : (node table : ℕ) (family : Family) (p : PrefixValue) (n t : ℕ) (f : Family) (q : PrefixValue)
    → is_eq (entry_key_cmp (entry_key node table family p) (entry_key n t f q))
    ≡ ((node == n) && ((table == t) && (same_family family f && ((p.value == q.value) && (p.len == q.len)))))
entry_keys_tell node table family p n t f q =
    both_eq (nat_cmp node n) _ _ _ (number_is_eq node n)
    (both_eq (nat_cmp table t) _ _ _ (number_is_eq table t)
    (both_eq (bool_cmp (same_family family families.V6) (same_family f families.V6)) _ _ _ (family_is_eq family f)
    (both_eq (nat_cmp p.value q.value) (nat_cmp p.len q.len) _ _ (number_is_eq p.value q.value) (number_is_eq p.len q.len))))

pub keys_tell : (q r : Route) → is_eq (entry_key_cmp (key_of q) (key_of r)) ≡ same_route q r
keys_tell q r = entry_keys_tell q.node q.table q.family q.prefix r.node r.table r.family r.prefix

one_last : (a b : Bool) → cond a true b ≡ (b || (a || false))
one_last true true = refl
one_last true false = refl
one_last false true = refl
one_last false false = refl

-- with one key more the set tells of one route more
pub has_more : (old new : BTreeSet EntryKey) (before : List Route) (r : Route) → HasKeys old before
    → tree.Updates entry_key_cmp old new (key_of r) true → HasKeys new (before ++ r ∷ [])
has_more old new before r has update q =
    update.0 (key_of q)
    ∙ (ap (λ b. cond b true (tree.contains entry_key_cmp old (key_of q))) (keys_tell r q)
    ∙ (ap (λ b. cond (same_route r q) true b) (has q)
    ∙ (one_last (same_route r q) (stands_before same_route before q)
    ∙ sym (list_any-append (λ earlier. same_route earlier q) before (r ∷ [])))))

-- a set of no keys tells of no route
pub no_keys : (keys : BTreeSet EntryKey) → keys.keys ≡ [] → HasKeys keys []
no_keys keys none q = ap (list_any (λ k. is_eq (entry_key_cmp (key_of q) k))) none
