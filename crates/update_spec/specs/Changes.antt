-- What a new description adds and what it removes, entry by entry.
use Rattle.std.specs.Prelude.{ℕ, ◌+◌, Bool, if◌then◌else◌, List, [], ◌∷◌, ◌++◌, length}
use Rattle.net_model.specs.declared.net.EntryId.{EntryId}
use Rattle.net_model.specs.declared.net.EntryId.TheVariants as ids
use Rattle.net_model.specs.Network.{Network}
use Rattle.update_spec.specs.Joined.{added_routes, added_sids, is_new_route, is_new_sid}

-- the names of items, the first of which has the number n
abbrev pub named_from : {X : Type 0} → (ℕ → EntryId) → ℕ → List X → List EntryId
named_from name n [] = []
named_from name n (x ∷ xs) = name n ∷ named_from name (n + 1) xs

-- the names of those of them that do not stay
abbrev pub lost_from : {X : Type 0} → (X → Bool) → (ℕ → EntryId) → ℕ → List X → List EntryId
lost_from stays name n [] = []
lost_from stays name n (x ∷ xs) =
    if stays x then lost_from stays name (n + 1) xs else name n ∷ lost_from stays name (n + 1) xs

-- what is added stands behind the old routes and SIDs; what is removed has its old number
abbrev pub added_entries : Network → Network → List EntryId
added_entries old new =
    named_from ids.Route (length old.routes) (added_routes old new) ++ named_from ids.Sid (length old.sids) (added_sids old new)

abbrev pub removed_entries : Network → Network → List EntryId
removed_entries old new =
    lost_from (is_new_route new) ids.Route 0 old.routes ++ lost_from (is_new_sid old new) ids.Sid 0 old.sids
