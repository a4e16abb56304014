-- Two entries of which one is added are apart: not on one prefix of one table, and not under one title.
use Rattle.std.proofs.Common.{◌≡◌, ℕ, ◌+◌, Bool, true, false, ◌==◌, ◌&&◌, not, cond, List, [], ◌∷◌, refl, ap, subst}
use Rattle.std.proofs.lemmas.Bool.{and_parts, and_from, and_right, or_parts, or_from, or_left, eq-eqb, not-true, both_ways, false_from_ne_true}
use Rattle.std.specs.List.{filter, list_any}
use Rattle.v6_addr.specs.Address.{PrefixValue, holds_address}
use Rattle.srv6_rules.specs.declared.sid.SidEntry.{SidEntry}
use Rattle.net_model.specs.declared.parts.Route.{Route}
use Rattle.net_model.specs.NetworkRules.{same_family, same_prefix, same_route, same_sid}
use Rattle.net_model.specs.NetworkJudging.{title_text, same_text}
use Rattle.update_spec.specs.Planning.{Item, items_from, route_item, sid_item, in_one_table, meet, conflict}
use Rattle.update_theory.proofs.Equals.{same_prefix_are}

holds_own : (p : PrefixValue) → holds_address p p.value ≡ true
unfolding holds_address
holds_own p = eq-eqb _ _ refl

same_prefixes_meet : (p q : PrefixValue) → same_prefix p q ≡ true → meet p q ≡ true
same_prefixes_meet p q h = or_left _ _ (subst (λ r. holds_address p r.value ≡ true) (same_prefix_are p q h) (holds_own p))

behind_true : (x y : Bool) → x ≡ true → (x && y) ≡ false → y ≡ false
behind_true true y e h = h
behind_true false y e h = cc

-- of two entries the second of which is added
pub record AreApart (a b : Item) : Type 0 where
  pub prefixes : (in_one_table a b && meet a.prefix b.prefix) ≡ false
  pub titles : same_text a.title b.title ≡ false

apart : (a b : Item) → b.kept ≡ false → conflict a b ≡ false → AreApart a b
apart a b new h =
    let parts = or_parts _ _ (behind_true _ _ (ap not (and_right a.kept b.kept new)) h) in
    record { prefixes = parts.0; titles = parts.1 }

pub routes_apart : (kept : Route → Bool) (n : ℕ) (q : Route) (is_old : Route → Bool) (m : ℕ) (r : Route) → not (is_old r) ≡ true
    → conflict (route_item kept n q) (route_item is_old m r) ≡ false → same_route q r ≡ false
routes_apart kept n q is_old m r new h =
    let a = route_item kept n q in
    let b = route_item is_old m r in
    let none = (apart a b (not-true _ new) h).prefixes in
    false_from_ne_true (same_route q r) (λ same.
    let node = and_parts (q.node == r.node) _ same in
    let table = and_parts (q.table == r.table) _ node.1 in
    let family = and_parts (same_family q.family r.family) (same_prefix q.prefix r.prefix) table.1 in
    both_ways _ none (and_from _ _ (and_from _ _ node.0 (and_from _ _ table.0 family.0)) (same_prefixes_meet q.prefix r.prefix family.1)))

-- two SIDs have other places and other titles
pub record SidsApart (old_titles new_titles : List (List ℕ)) (s t : SidEntry) : Type 0 where
  pub places : same_sid s t ≡ false
  pub titles : same_text (title_text old_titles s) (title_text new_titles t) ≡ false

pub sids_apart : (old_titles new_titles : List (List ℕ)) (kept : SidEntry → Bool) (n : ℕ) (s : SidEntry) (is_old : SidEntry → Bool) (m : ℕ)
    (t : SidEntry) → not (is_old t) ≡ true → conflict (sid_item old_titles kept n s) (sid_item new_titles is_old m t) ≡ false
    → SidsApart old_titles new_titles s t
sids_apart old_titles new_titles kept n s is_old m t new h =
    let a = sid_item old_titles kept n s in
    let b = sid_item new_titles is_old m t in
    let parts = apart a b (not-true _ new) h in
    record {
      places = false_from_ne_true (same_sid s t) (λ same.
          let node = and_parts _ _ same in
          both_ways _ parts.prefixes (and_from _ _ (and_from _ _ node.0 refl) (same_prefixes_meet _ _ node.1)));
      titles = parts.titles;
    }

-- ---- over lists

-- where a test finds none of the entries of items, another finds none of those that are let through
pub none_let_through : {X : Type 0} (item : ℕ → X → Item) (hit : Item → Bool) (keep p : X → Bool)
    → ((n : ℕ) (x : X) → keep x ≡ true → hit (item n x) ≡ false → p x ≡ false) → (n : ℕ) (xs : List X)
    → list_any hit (items_from item n xs) ≡ false → list_any p (filter keep xs) ≡ false
none_let_through item hit keep p f n [] h = refl
none_let_through item hit keep p f n (x ∷ xs) h =
    let parts = or_parts _ _ h in
    let rest = none_let_through item hit keep p f (n + 1) xs parts.1 in
    elim (keep x) as (λ b. (b ≡ true → keep x ≡ true) → list_any p (cond b (x ∷ filter keep xs) (filter keep xs)) ≡ false)
    [ true ↦ λ is. or_from _ _ (f n x (is refl) parts.0) rest | false ↦ λ is. rest ] (λ e. e)

pub none_of_all : {X : Type 0} (item : ℕ → X → Item) (hit : Item → Bool) (p : X → Bool)
    → ((n : ℕ) (x : X) → hit (item n x) ≡ false → p x ≡ false) → (n : ℕ) (xs : List X)
    → list_any hit (items_from item n xs) ≡ false → list_any p xs ≡ false
none_of_all item hit p f n [] h = refl
none_of_all item hit p f n (x ∷ xs) h =
    let parts = or_parts _ _ h in
    or_from _ _ (f n x parts.0) (none_of_all item hit p f (n + 1) xs parts.1)
