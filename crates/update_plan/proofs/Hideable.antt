-- What a plan adds and removes can be hidden: each is a route or a SID of the network of both descriptions, and stands once.
use Rattle.std.proofs.Common.{◌≡◌, ℕ, suc, ◌+◌, ◌-◌, ◌^◌, ◌<◌, ◌≤◌, Bool, true, false, ◌&&◌, not, if◌then◌else◌, List, [], ◌∷◌, ◌++◌, length, drop, Option, Some, None, refl, ap, ap₂, ◌∙◌, subst, arith, length-append}
use Rattle.std.proofs.lemmas.Bool.{lt-ltb, ne_eqb}
use Rattle.net_model.specs.declared.net.EntryId.{EntryId}
use Rattle.net_model.specs.declared.net.EntryId.TheVariants as ids
use Rattle.net_model.specs.declared.net.Hit.{Hit}
use Rattle.net_model.specs.Network.{Network, hit_of_entry, same_hit}
use Rattle.net_model.specs.NetworkTerms.{CanHide}
use Rattle.net_model.specs.NetworkRulesTerms.{IsNetwork}
use Rattle.net_model.proofs.HiddenLemmas.{there_is}
use Rattle.net_model.proofs.PublicLaws.{keeps_from_network}
use Rattle.net_model.specs.NetworkJudging.{title_text}
use Rattle.srv6_rules.specs.declared.sid.SidEntry.{SidEntry}
use Rattle.update_spec.specs.Joined.{added_routes, added_sids, is_new_route, is_new_sid, joined_of, numbered, numbered_beside}
use Rattle.update_spec.specs.Changes.{added_entries, lost_from, named_from, removed_entries}
use Rattle.update_plan.specs.UpdateStateTerms.{AreHideable}
use Rattle.update_plan.proofs.UpdateShown.{shown_append, shown_first, shown_without}

abbrev Each : (EntryId → Type 0) → List EntryId → Type 0
Each P [] = Unit {0}
Each P (e ∷ es) = P e × Each P es

hideable_append : (net : Network) (es fs : List EntryId) → AreHideable net es → AreHideable net fs
    → Each (λ e. shown_without fs (hit_of_entry e) ≡ true) es → AreHideable net (es ++ fs)
hideable_append net [] fs one other each = other
hideable_append net (e ∷ es) fs one other each = (
  one.0,
  shown_append es fs (hit_of_entry e) ∙ ap₂ (λ b c. b && c) one.1 each.0,
  hideable_append net es fs one.2 other each.1,
)

-- names of items that do not stay

module _ {X : Type 0} (stays : X → Bool) (name : ℕ → EntryId) where
  none_lost : (h : Hit) (n : ℕ) (xs : List X) → ((m : ℕ) → n ≤ m → same_hit h (hit_of_entry (name m)) ≡ false)
      → shown_without (lost_from stays name n xs) h ≡ true
  none_lost h n [] apart = refl
  none_lost h n (x ∷ xs) apart =
      let rest = none_lost h (n + 1) xs (λ m above. apart m (omega (arith, above))) in
      elim (stays x) as (λ b. shown_without (if b then lost_from stays name (n + 1) xs else name n ∷ lost_from stays name (n + 1) xs) h
      ≡ true) [
        | true ↦ rest
        | false ↦ shown_first (name n) (lost_from stays name (n + 1) xs) h
            ∙ ap₂ (λ b c. not b && c) (apart n (omega arith)) rest
      ]

  each_lost : (P : EntryId → Type 0) → ((m : ℕ) → P (name m)) → (n : ℕ) (xs : List X) → Each P (lost_from stays name n xs)
  each_lost P all n [] = tt
  each_lost P all n (x ∷ xs) =
      let rest = each_lost P all (n + 1) xs in
      elim (stays x) as (λ b. Each P (if b then lost_from stays name (n + 1) xs else name n ∷ lost_from stays name (n + 1) xs))
      [ true ↦ rest | false ↦ (all n, rest) ]

  hideable_lost : (net : Network) → ((k m : ℕ) → k < m → same_hit (hit_of_entry (name k)) (hit_of_entry (name m)) ≡ false)
      → (n last : ℕ) (xs : List X) → n + length xs ≤ last → ((m : ℕ) → m < last → CanHide net (name m))
      → AreHideable net (lost_from stays name n xs)
  hideable_lost net apart n last [] within can = tt
  hideable_lost net apart n last (x ∷ xs) within can =
      let rest = hideable_lost net apart (n + 1) last xs (omega (arith, within)) can in
      elim (stays x) as (λ b. AreHideable net (if b then lost_from stays name (n + 1) xs else name n ∷ lost_from stays name (n + 1) xs)) [
        | true ↦ rest
        | false ↦ (
          can n (omega (arith, within)),
          none_lost (hit_of_entry (name n)) (n + 1) xs (λ m above. apart n m (omega (arith, above))),
          rest,
        )
      ]

  length_lost : (n : ℕ) (xs : List X) → length (lost_from stays name n xs) ≤ length xs
  length_lost n [] = omega arith
  length_lost n (x ∷ xs) =
      let rest = length_lost (n + 1) xs in
      elim (stays x) as (λ b. length (if b then lost_from stays name (n + 1) xs else name n ∷ lost_from stays name (n + 1) xs)
      ≤ length (x ∷ xs)) [ true ↦ omega (arith, rest) | false ↦ omega (arith, rest) ]

-- names of all items are those of items of which none stays
named_lost : {X : Type 0} (name : ℕ → EntryId) (n : ℕ) (xs : List X) → lost_from (λ x. false) name n xs ≡ named_from name n xs
named_lost name n [] = refl
named_lost name n (x ∷ xs) = ap (λ l. name n ∷ l) (named_lost name (n + 1) xs)

pub named_length : {X Y : Type 0} (name : ℕ → EntryId) (n : ℕ) (xs : List X) (ys : List Y) → length xs ≡ length ys
    → named_from name n xs ≡ named_from name n ys
named_length name n [] [] same = refl
named_length name n [] (y ∷ ys) same = absurd (omega (arith, same))
named_length name n (x ∷ xs) [] same = absurd (omega (arith, same))
named_length name n (x ∷ xs) (y ∷ ys) same = ap (λ l. name n ∷ l) (named_length name (n + 1) xs ys (omega (arith, same)))

length_named : {X : Type 0} (name : ℕ → EntryId) (n : ℕ) (xs : List X) → length (named_from name n xs) ≡ length xs
length_named name n [] = refl
length_named name n (x ∷ xs) = ap suc (length_named name (n + 1) xs)

-- SIDs that are numbered anew are as many as before

length_beside : (o : Option (List ℕ)) (c : ℕ) (s : SidEntry) (rest : ℕ → List SidEntry) (n : ℕ) → ((m : ℕ) → length (rest m) ≡ n)
    → length (numbered_beside o c s rest) ≡ suc n
length_beside None c s rest n each = ap suc (each c)
length_beside (Some text) c s rest n each = ap suc (each (c + 1))

length_numbered : (texts : List (List ℕ)) (c : ℕ) (ss : List SidEntry) → length (numbered texts c ss) ≡ length ss
length_numbered texts c [] = refl
length_numbered texts c (s ∷ ss) =
    length_beside (title_text texts s) c s (λ m. numbered texts m ss) (length ss) (λ m. length_numbered texts m ss)

-- ---- routes and SIDs

module _ {X Y : Type 0} (net : Network) (route_stays : X → Bool) (sid_stays : Y → Bool) (n m : ℕ) (routes : List X) (sids : List Y) where
  both_lost : n + length routes ≤ length net.routes → m + length sids ≤ length net.sids
      → AreHideable net (lost_from route_stays ids.Route n routes ++ lost_from sid_stays ids.Sid m sids)
  both_lost few_routes few_sids =
      hideable_append net (lost_from route_stays ids.Route n routes) (lost_from sid_stays ids.Sid m sids)
      (hideable_lost route_stays ids.Route net (λ k l less. ne_eqb k l (λ same. omega (arith, less, same))) n
      (length net.routes) routes few_routes
      (λ k within. (there_is net.routes k (length net.routes) refl).0 (lt-ltb k (length net.routes) within)))
      (hideable_lost sid_stays ids.Sid net (λ k l less. ne_eqb k l (λ same. omega (arith, less, same))) m (length net.sids) sids few_sids
      (λ k within. (there_is net.sids k (length net.sids) refl).0 (lt-ltb k (length net.sids) within)))
      (each_lost route_stays ids.Route (λ e. shown_without (lost_from sid_stays ids.Sid m sids) (hit_of_entry e) ≡ true)
      (λ k. none_lost sid_stays ids.Sid (hit_of_entry (ids.Route k)) m sids (λ l above. refl)) n routes)

module _ (old new : Network) where
  abbrev joined : Network
  joined = joined_of old new

  routes_are : length joined.routes ≡ length old.routes + length (added_routes old new)
  routes_are = length-append old.routes (added_routes old new)

  sids_are : length joined.sids ≡ length old.sids + length (added_sids old new)
  sids_are =
      let e : length joined.sids ≡ length old.sids + length (numbered new.titles (length old.titles) (added_sids old new)) =
      length-append old.sids (numbered new.titles (length old.titles) (added_sids old new)) in
      let f = length_numbered new.titles (length old.titles) (added_sids old new) in
      omega (arith, e, f)

  pub added_hideable : AreHideable joined (added_entries old new)
  added_hideable =
      let routes = routes_are in
      let sids = sids_are in
      subst (AreHideable joined)
      (ap₂ (λ (l m : List EntryId). l ++ m) (named_lost ids.Route (length old.routes) (added_routes old new))
      (named_lost ids.Sid (length old.sids) (added_sids old new)))
      (both_lost joined (λ r. false) (λ s. false) (length old.routes) (length old.sids) (added_routes old new) (added_sids old new)
      (omega (arith, routes)) (omega (arith, sids)))

  pub removed_hideable : AreHideable joined (removed_entries old new)
  removed_hideable =
      let routes = routes_are in
      let sids = sids_are in
      both_lost joined (is_new_route new) (is_new_sid old new) 0 0 old.routes old.sids (omega (arith, routes)) (omega (arith, sids))

  pub few_entries : IsNetwork joined → length (added_entries old new) + length (removed_entries old new) + 1 < 2 ^ 32
  few_entries rules =
      let keeps = keeps_from_network joined rules in
      let few_routes = keeps.route_count in
      let few_sids = keeps.sid_count in
      let routes = routes_are in
      let sids = sids_are in
      let named = length-append (named_from ids.Route (length old.routes) (added_routes old new))
      (named_from ids.Sid (length old.sids) (added_sids old new)) in
      let one = length_named ids.Route (length old.routes) (added_routes old new) in
      let other = length_named ids.Sid (length old.sids) (added_sids old new) in
      let lost = length-append (lost_from (is_new_route new) ids.Route 0 old.routes) (lost_from (is_new_sid old new) ids.Sid 0 old.sids) in
      let less = length_lost (is_new_route new) ids.Route 0 old.routes in
      let fewer = length_lost (is_new_sid old new) ids.Sid 0 old.sids in
      omega (arith, few_routes, few_sids, routes, sids, named, one, other, lost, less, fewer)

  -- what stands behind the old routes and SIDs is added
  pub behind_added : named_from ids.Route (length old.routes) (drop (length old.routes) joined.routes)
      ++ named_from ids.Sid (length old.sids) (drop (length old.sids) joined.sids) ≡ added_entries old new
  behind_added =
      ap₂ (λ (l m : List EntryId). l ++ m)
      (ap (named_from ids.Route (length old.routes)) (drop_front old.routes (added_routes old new)))
      (ap (named_from ids.Sid (length old.sids)) (drop_front old.sids (numbered new.titles (length old.titles) (added_sids old new)))
      ∙ named_length ids.Sid (length old.sids) (numbered new.titles (length old.titles) (added_sids old new)) (added_sids old new)
      (length_numbered new.titles (length old.titles) (added_sids old new)))
    where
      drop_front : {X : Type 0} (xs ys : List X) → drop (length xs) (xs ++ ys) ≡ ys
      drop_front [] ys = refl
      drop_front (x ∷ xs) ys = drop_front xs ys
