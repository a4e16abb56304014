-- Tests of equal items, with the items exchanged.
use Rattle.std.proofs.Common.{◌≡◌, ℕ, ◌+◌, Bool, true, false, ◌==◌, ◌&&◌, List, [], ◌∷◌, ◌++◌, Option, Some, None, refl, ap, ap₂, arith}
use Rattle.std.proofs.lemmas.Bool.Decides.{nat_tests}
use Rattle.v6_addr.specs.Address.{PrefixValue}
use Rattle.srv6_rules.specs.declared.sid.Behaviour.{Behaviour}
use Rattle.srv6_rules.specs.declared.sid.Csid.{Csid}
use Rattle.srv6_rules.specs.declared.sid.Csid.TheVariants as csids
use Rattle.srv6_rules.specs.declared.family.Family.{Family}
use Rattle.srv6_rules.specs.declared.family.Family.TheVariants as families
use Rattle.srv6_rules.specs.declared.sid.SidEntry.{SidEntry}
use Rattle.srv6_rules.specs.Behaviours.{behaviour_table, behaviour_policy}
use Rattle.net_model.specs.declared.parts.Route.{Route}
use Rattle.net_model.specs.Network.{Network}
use Rattle.net_model.specs.NetworkRules.{same_bytes, same_number, same_prefix, same_family, same_route}
use Rattle.net_model.specs.NetworkJudging.{same_answer, title_text}
use Rattle.update_spec.specs.Equal.{equal_options, equal_route, behaviour_place, equal_behaviour, equal_csid, equal_forms, equal_sid}
use Rattle.update_spec.specs.Joined.{is_old_route, is_new_route, is_old_sid, is_new_sid}
use Rattle.update_spec.specs.Planning.{Item, items_from, route_item, sid_item, address_item, old_items, new_items}
use Rattle.update_theory.proofs.PlanNumbers.{any_same}

pub number_sym : (m n : ℕ) → (m == n) ≡ (n == m)
number_sym m n = grind (arith, nat_tests)

pub both_sym : (a b c d : Bool) → a ≡ c → b ≡ d → (a && b) ≡ (c && d)
both_sym a b c d e f = ap₂ (λ x y. x && y) e f

pub bytes_sym : (xs ys : List ℕ) → same_bytes xs ys ≡ same_bytes ys xs
bytes_sym [] [] = refl
bytes_sym [] (y ∷ ys) = refl
bytes_sym (x ∷ xs) [] = refl
bytes_sym (x ∷ xs) (y ∷ ys) = both_sym (x == y) _ (y == x) _ (number_sym x y) (bytes_sym xs ys)

options_sym : {X : Type 0} (equal : X → X → Bool) → ((x y : X) → equal x y ≡ equal y x) → (o p : Option X)
    → equal_options equal o p ≡ equal_options equal p o
options_sym equal f None None = refl
options_sym equal f None (Some y) = refl
options_sym equal f (Some x) None = refl
options_sym equal f (Some x) (Some y) = f x y

prefix_sym : (p q : PrefixValue) → same_prefix p q ≡ same_prefix q p
prefix_sym p q = both_sym (p.value == q.value) (p.len == q.len) (q.value == p.value) (q.len == p.len) (number_sym p.value q.value)
    (number_sym p.len q.len)

family_sym : (f g : Family) → same_family f g ≡ same_family g f
family_sym families.V6 families.V6 = refl
family_sym families.V6 families.V4 = refl
family_sym families.V4 families.V6 = refl
family_sym families.V4 families.V4 = refl

pub route_sym : (q r : Route) → same_route q r ≡ same_route r q
route_sym q r =
    both_sym (q.node == r.node) _ (r.node == q.node) _ (number_sym q.node r.node)
    (both_sym (q.table == r.table) _ (r.table == q.table) _ (number_sym q.table r.table)
    (both_sym (same_family q.family r.family) (same_prefix q.prefix r.prefix) (same_family r.family q.family)
    (same_prefix r.prefix q.prefix)
    (family_sym q.family r.family) (prefix_sym q.prefix r.prefix)))

pub equal_route_sym : (q r : Route) → equal_route q r ≡ equal_route r q
equal_route_sym q r =
    both_sym (same_route q r) (same_bytes q.via r.via) (same_route r q) (same_bytes r.via q.via) (route_sym q r) (bytes_sym q.via r.via)

answer_sym : (a b : Bool) → same_answer a b ≡ same_answer b a
answer_sym true true = refl
answer_sym true false = refl
answer_sym false true = refl
answer_sym false false = refl

csid_sym : (a b : Csid) → equal_csid a b ≡ equal_csid b a
csid_sym csids.Plain csids.Plain = refl
csid_sym csids.Plain csids.Next = refl
csid_sym csids.Plain csids.Replace = refl
csid_sym csids.Next csids.Plain = refl
csid_sym csids.Next csids.Next = refl
csid_sym csids.Next csids.Replace = refl
csid_sym csids.Replace csids.Plain = refl
csid_sym csids.Replace csids.Next = refl
csid_sym csids.Replace csids.Replace = refl

behaviour_sym : (a b : Behaviour) → equal_behaviour a b ≡ equal_behaviour b a
behaviour_sym a b =
    both_sym (behaviour_place a == behaviour_place b) _ (behaviour_place b == behaviour_place a) _
    (number_sym (behaviour_place a) (behaviour_place b))
    (both_sym (equal_options same_number (behaviour_table a) (behaviour_table b))
    (equal_options same_number (behaviour_policy a) (behaviour_policy b))
    (equal_options same_number (behaviour_table b) (behaviour_table a))
    (equal_options same_number (behaviour_policy b) (behaviour_policy a))
    (options_sym same_number number_sym (behaviour_table a) (behaviour_table b))
    (options_sym same_number number_sym (behaviour_policy a) (behaviour_policy b)))

forms_sym : (s t : SidEntry) → equal_forms s t ≡ equal_forms t s
forms_sym s t =
    both_sym (equal_csid s.csid t.csid) _ (equal_csid t.csid s.csid) _ (csid_sym s.csid t.csid)
    (both_sym (s.block_len == t.block_len) _ (t.block_len == s.block_len) _ (number_sym s.block_len t.block_len)
    (both_sym (same_answer s.psp t.psp) _ (same_answer t.psp s.psp) _ (answer_sym s.psp t.psp)
    (both_sym (same_answer s.usp t.usp) (same_answer s.usd t.usd) (same_answer t.usp s.usp) (same_answer t.usd s.usd)
    (answer_sym s.usp t.usp) (answer_sym s.usd t.usd))))

pub sid_sym : (old new : Network) (s t : SidEntry) → equal_sid old new s t ≡ equal_sid new old t s
sid_sym old new s t =
    let one = title_text old.titles s in
    let two = title_text new.titles t in
    both_sym (s.node == t.node) _ (t.node == s.node) _ (number_sym s.node t.node)
    (both_sym (same_prefix s.prefix t.prefix) _ (same_prefix t.prefix s.prefix) _ (prefix_sym s.prefix t.prefix)
    (both_sym (equal_behaviour s.behaviour t.behaviour) _ (equal_behaviour t.behaviour s.behaviour) _
    (behaviour_sym s.behaviour t.behaviour)
    (both_sym (equal_forms s t) _ (equal_forms t s) _ (forms_sym s t)
    (both_sym (same_bytes s.links t.links) (equal_options same_bytes one two) (same_bytes t.links s.links)
    (equal_options same_bytes two one)
    (bytes_sym s.links t.links) (options_sym same_bytes bytes_sym one two)))))

-- what one has of the other is what the other has of it

pub old_is_new_route : (old : Network) (r : Route) → is_new_route old r ≡ is_old_route old r
old_is_new_route old r = any_same (equal_route r) (λ q. equal_route q r) (λ q. equal_route_sym r q) old.routes

pub old_is_new_sid : (old new : Network) (t : SidEntry) → is_new_sid new old t ≡ is_old_sid old new t
old_is_new_sid old new t = any_same (equal_sid new old t) (λ s. equal_sid old new s t) (λ s. sid_sym new old t s) old.sids

items_same : {X : Type 0} (f g : ℕ → X → Item) → ((n : ℕ) (x : X) → f n x ≡ g n x) → (n : ℕ) (xs : List X)
    → items_from f n xs ≡ items_from g n xs
items_same f g e n [] = refl
items_same f g e n (x ∷ xs) = ap₂ (λ i is. i ∷ is) (e n x) (items_same f g e (n + 1) xs)

route_item_same : (f g : Route → Bool) → ((r : Route) → f r ≡ g r) → (n : ℕ) (r : Route) → route_item f n r ≡ route_item g n r
route_item_same f g e n r = ap (λ k. record (route_item f n r) { kept = k }) (e r)

sid_item_same : (titles : List (List ℕ)) (f g : SidEntry → Bool) → ((s : SidEntry) → f s ≡ g s) → (n : ℕ) (s : SidEntry)
    → sid_item titles f n s ≡ sid_item titles g n s
sid_item_same titles f g e n s = ap (λ k. record (sid_item titles f n s) { kept = k }) (e s)

-- the new entries are the old ones of the way back
pub items_back : (old new : Network) → old_items new old ≡ new_items old new
items_back old new =
    ap₂ (λ rs ss. rs ++ (ss ++ items_from address_item 0 new.nodes))
    (items_same (route_item (is_new_route old)) (route_item (is_old_route old))
    (route_item_same (is_new_route old) (is_old_route old) (old_is_new_route old)) 0 new.routes)
    (items_same (sid_item new.titles (is_new_sid new old)) (sid_item new.titles (is_old_sid old new))
    (sid_item_same new.titles (is_new_sid new old) (is_old_sid old new) (old_is_new_sid old new)) 0 new.sids)
