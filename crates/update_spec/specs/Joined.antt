-- The network of two descriptions, the old and the new one, whose tables pass from one to the other while packets are on their
-- way: it has the old routes and SIDs at their numbers, and after them those that the new description adds.
use Rattle.std.specs.Prelude.{ℕ, ◌+◌, Bool, not, List, [], ◌∷◌, ◌++◌, length, Option, Some, None}
use Rattle.std.specs.List.{filter, filter_map, list_any}
use Rattle.srv6_rules.specs.declared.sid.SidEntry.{SidEntry}
use Rattle.net_model.specs.declared.parts.Route.{Route}
use Rattle.net_model.specs.Network.{Network}
use Rattle.net_model.specs.NetworkJudging.{title_text}
use Rattle.update_spec.specs.Equal.{equal_route, equal_sid}

-- a route or a SID of the new description that the old one has, and one of the old description that the new one has
abbrev pub is_old_route : Network → Route → Bool
is_old_route old r = list_any (λ q. equal_route q r) old.routes

abbrev pub is_new_route : Network → Route → Bool
is_new_route new q = list_any (equal_route q) new.routes

abbrev pub is_old_sid : Network → Network → SidEntry → Bool
is_old_sid old new t = list_any (λ s. equal_sid old new s t) old.sids

abbrev pub is_new_sid : Network → Network → SidEntry → Bool
is_new_sid old new s = list_any (equal_sid old new s) new.sids

-- what the new description adds, in its order
abbrev pub added_routes : Network → Network → List Route
added_routes old new = filter (λ r. not (is_old_route old r)) new.routes

abbrev pub added_sids : Network → Network → List SidEntry
added_sids old new = filter (λ t. not (is_old_sid old new t)) new.sids

-- SIDs whose titles are numbered anew, from a number on; one without a title's text has no title
abbrev pub numbered_beside : Option (List ℕ) → ℕ → SidEntry → (ℕ → List SidEntry) → List SidEntry
numbered_beside None n s rest = record s { title = None } ∷ rest n
numbered_beside (Some text) n s rest = record s { title = Some n } ∷ rest (n + 1)

abbrev pub numbered : List (List ℕ) → ℕ → List SidEntry → List SidEntry
numbered titles n [] = []
numbered titles n (s ∷ ss) = numbered_beside (title_text titles s) n s (λ m. numbered titles m ss)

abbrev pub added_titles : Network → Network → List (List ℕ)
added_titles old new = filter_map (title_text new.titles) (added_sids old new)

-- the titles of added SIDs follow the old ones; nothing is hidden
abbrev pub joined_of : Network → Network → Network
joined_of old new = record old {
  routes = old.routes ++ added_routes old new;
  titles = old.titles ++ added_titles old new;
  sids = old.sids ++ numbered new.titles (length old.titles) (added_sids old new);
  hidden = [];
}
