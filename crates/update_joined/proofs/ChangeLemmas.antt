-- The entries that a description lacks, by their names.
use Rattle.std.proofs.Common.{◌≡◌, ℕ, ◌+◌, Bool, true, false, not, cond, if◌then◌else◌, List, [], ◌∷◌, ◌++◌, map, refl, ap, ap₂, ◌∙◌}
use Rattle.std.proofs.lemmas.List.{append-nil}
use Rattle.std.specs.Prelude.{IfOk, Result, Ok, Err}
use Rattle.std.specs.Global.{Vec}
use Rattle.std.specs.List.{filter}
use Rattle.net_model.specs.declared.parts.Node.{Node}
use Rattle.net_model.specs.declared.net.EntryId.{EntryId}
use Rattle.net_model.specs.declared.net.EntryId.TheVariants as ids
use Rattle.net_model.specs.Network.{Network}
use Rattle.update_spec.specs.Changes.{lost_from, removed_entries}
use Rattle.update_joined.specs.declared.entry.PlanEntry.{PlanEntry}
use Rattle.update_joined.specs.JoinedEntries.{is_added, entries_from, route_entry, sid_entry, address_entry, entries_of}
use Rattle.update_spec.specs.Joined.{is_new_route, is_new_sid}

abbrev names_in : List PlanEntry → List EntryId
names_in es = map (λ (e : PlanEntry). e.id) (filter is_added es)

names_append : (es fs : List PlanEntry) → names_in (es ++ fs) ≡ names_in es ++ names_in fs
names_append [] fs = refl
names_append (e ∷ es) fs =
    elim (is_added e) as (λ b. map (λ (f : PlanEntry). f.id) (cond b (e ∷ filter is_added (es ++ fs)) (filter is_added (es ++ fs)))
    ≡ map (λ (f : PlanEntry). f.id) (cond b (e ∷ filter is_added es) (filter is_added es)) ++ names_in fs)
    [ true ↦ ap (λ l. e.id ∷ l) (names_append es fs) | false ↦ names_append es fs ]

-- items of which a test tells whether they stay
names_lost : {X : Type 0} (entry : ℕ → X → PlanEntry) (stays : X → Bool) (name : ℕ → EntryId)
    → ((n : ℕ) (x : X) → (entry n x).kept ≡ stays x) → ((n : ℕ) (x : X) → (entry n x).id ≡ name n)
    → (n : ℕ) (xs : List X) → names_in (entries_from entry n xs) ≡ lost_from stays name n xs
names_lost entry stays name kept named n [] = refl
names_lost entry stays name kept named n (x ∷ xs) =
    let e = entry n x in
    let rest = entries_from entry (n + 1) xs in
    let here : names_in (e ∷ rest) ≡ (if stays x then names_in rest else e.id ∷ names_in rest) = by_test e.kept (stays x) (kept n x) in
    here ∙ ap₂ (λ (i : EntryId) (l : List EntryId). if stays x then l else i ∷ l) (named n x)
    (names_lost entry stays name kept named (n + 1) xs)
  where
    by_test : (b c : Bool) → b ≡ c
        → map (λ (f : PlanEntry). f.id) (cond (not b) (entry n x ∷ filter is_added (entries_from entry (n + 1) xs))
        (filter is_added (entries_from entry (n + 1) xs)))
        ≡ (if c then names_in (entries_from entry (n + 1) xs) else (entry n x).id ∷ names_in (entries_from entry (n + 1) xs))
    by_test true true same = refl
    by_test true false same = cc
    by_test false true same = cc
    by_test false false same = refl

-- all addresses stay
names_addresses : (n : ℕ) (nodes : List Node) → names_in (entries_from address_entry n nodes) ≡ []
names_addresses n [] = refl
names_addresses n (node ∷ nodes) = names_addresses (n + 1) nodes

pub removed_names : (old new : Network) (es : List PlanEntry)
    → es ≡ entries_of (is_new_route new) (is_new_sid old new) old → names_in es ≡ removed_entries old new
removed_names old new es is =
    ap names_in is
    ∙ (names_append (entries_from (route_entry (is_new_route new)) 0 old.routes)
    (entries_from (sid_entry (is_new_sid old new)) 0 old.sids ++ entries_from address_entry 0 old.nodes)
    ∙ ap₂ (λ (l m : List EntryId). l ++ m)
    (names_lost (route_entry (is_new_route new)) (is_new_route new) ids.Route (λ n r. refl) (λ n r. refl) 0 old.routes)
    (names_append (entries_from (sid_entry (is_new_sid old new)) 0 old.sids) (entries_from address_entry 0 old.nodes)
    ∙ (ap₂ (λ (l m : List EntryId). l ++ m)
    (names_lost (sid_entry (is_new_sid old new)) (is_new_sid old new) ids.Sid (λ n s. refl) (λ n s. refl) 0 old.sids)
    (names_addresses 0 old.nodes)
    ∙ append-nil _)))

-- names that were gathered from them
pub removed_gathered : {E : Type 0} (old new : Network) (seen olds : List PlanEntry) (r : Result (Vec EntryId) E)
    → seen ≡ olds → olds ≡ entries_of (is_new_route new) (is_new_sid old new) old → IfOk r (λ names. names.items ≡ names_in seen)
    → IfOk r (λ names. names.items ≡ removed_entries old new)
removed_gathered old new seen olds (Ok names) same are is = is ∙ removed_names old new seen (same ∙ are)
removed_gathered old new seen olds (Err why) same are is = tt
