-- What the entries mean that are gathered, and lists that grow at their end.
use Rattle.std.proofs.Common.{◌≡◌, ℕ, ◌+◌, Bool, true, false, ◌&&◌, ◌||◌, not, cond, List, [], ◌∷◌, ◌++◌, map, find, Some, refl, ap, ap₂, ◌∙◌, append_assoc}
use Rattle.std.specs.List.{filter}
use Rattle.net_model.specs.Network.{Network}
use Rattle.update_joined.specs.declared.entry.PlanEntry.{PlanEntry}
use Rattle.update_spec.specs.Joined.{is_new_route, is_new_sid}
use Rattle.update_spec.specs.Planning.{Item, items_from, route_item, sid_item, address_item, old_items, in_one_table, meet, conflict}
use Rattle.net_model.specs.NetworkJudging.{same_text}
use Rattle.update_joined.specs.JoinedEntries.{item_of, is_added, entries_from, route_entry, sid_entry, address_entry, entries_of}

-- one more at the end, and then the rest
pub pushed_one : {X : Type 0} (xs ys zs ws : List X) (x : X) → ys ≡ xs ++ x ∷ [] → xs ++ (x ∷ zs) ≡ ws → ys ++ zs ≡ ws
pushed_one xs ys zs ws x e h = ap (λ l. l ++ zs) e ∙ (append_assoc xs (x ∷ []) zs ∙ h)

-- ---- entries and items

map_append : {X Y : Type 0} (f : X → Y) (xs ys : List X) → map f (xs ++ ys) ≡ map f xs ++ map f ys
map_append f [] ys = refl
map_append f (x ∷ xs) ys = ap (λ l. f x ∷ l) (map_append f xs ys)

meant_from : {X : Type 0} (titles : List (List ℕ)) (entry : ℕ → X → PlanEntry) (item : ℕ → X → Item)
    → ((n : ℕ) (x : X) → item_of titles (entry n x) ≡ item n x) → (n : ℕ) (xs : List X)
    → map (item_of titles) (entries_from entry n xs) ≡ items_from item n xs
meant_from titles entry item e n [] = refl
meant_from titles entry item e n (x ∷ xs) = ap₂ (λ i is. i ∷ is) (e n x) (meant_from titles entry item e (n + 1) xs)

-- the entries of a description are its items
pub meant : (own other : Network)
    → map (item_of own.titles) (entries_of (is_new_route other) (is_new_sid own other) own) ≡ old_items own other
meant own other =
    let routes = entries_from (route_entry (is_new_route other)) 0 own.routes in
    let sids = entries_from (sid_entry (is_new_sid own other)) 0 own.sids in
    let addresses = entries_from address_entry 0 own.nodes in
    map_append (item_of own.titles) routes (sids ++ addresses)
    ∙ ap₂ (λ l m. l ++ m)
    (meant_from own.titles (route_entry (is_new_route other)) (route_item (is_new_route other)) (λ n r. refl) 0 own.routes)
    (map_append (item_of own.titles) sids addresses
    ∙ ap₂ (λ l m. l ++ m)
    (meant_from own.titles (sid_entry (is_new_sid own other)) (sid_item own.titles (is_new_sid own other)) (λ n s. refl) 0 own.sids)
    (meant_from own.titles address_entry address_item (λ n node. refl) 0 own.nodes))

-- ---- a kept entry is in conflict with none that is kept

beside_kept : (a b : Item) → a.kept ≡ true → b.kept ≡ true → conflict a b ≡ false
beside_kept a b k l =
    ap₂ (λ x y. not (x && y) && ((in_one_table a b && meet a.prefix b.prefix) || same_text a.title b.title)) k l

from_not : (b : Bool) → not b ≡ false → b ≡ true
from_not true h = refl
from_not false h = cc

passed_over : (p : Item → Bool) (item : PlanEntry → Item) (e : PlanEntry) (fs es : List PlanEntry) (b : Bool)
    → find p (map item fs) ≡ find p (map item es) → (b ≡ false → p (item e) ≡ false)
    → find p (map item (cond b (e ∷ fs) fs)) ≡ find p (map item (e ∷ es))
passed_over p item e fs es true same f = ap (cond (p (item e)) (Some (item e))) same
passed_over p item e fs es false same f = rw (f refl) same

-- so it is compared with those that are added alone
pub among_added : (titles : List (List ℕ)) (a : Item) (es : List PlanEntry) → a.kept ≡ true
    → find (conflict a) (map (item_of titles) (filter is_added es)) ≡ find (conflict a) (map (item_of titles) es)
among_added titles a [] k = refl
among_added titles a (e ∷ es) k =
    passed_over (conflict a) (item_of titles) e (filter is_added es) es (is_added e) (among_added titles a es k)
    (λ gone. beside_kept a (item_of titles e) k (from_not e.kept gone))
