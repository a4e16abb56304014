-- Need not be believed: helps proofs and other laws.
-- Terms beside those of `update_spec/specs/Lookups.antt`.
use Rattle.std.specs.Prelude.{ℕ, Bool, true, nat_lt, List, length, slice_get, Option, Some, None}
use Rattle.std.specs.List.{filter}
use Rattle.srv6_rules.specs.declared.family.Family.{Family}
use Rattle.srv6_rules.specs.declared.sid.SidEntry.{SidEntry}
use Rattle.net_model.specs.declared.parts.Route.{Route}
use Rattle.net_model.specs.declared.net.Hit.{Hit}
use Rattle.net_model.specs.declared.net.Hit.TheVariants as hits
use Rattle.net_model.specs.Network.{Network}
use Rattle.net_model.specs.Best.{Entry, longest, hit_of, entries_of}
use Rattle.update_spec.specs.Joined.{is_new_route, is_new_sid}

-- the entries of a node's table that are shown, and the look-up among them
abbrev pub shown_entries : (Hit → Bool) → Network → ℕ → ℕ → Family → List Entry
shown_entries shown net node table family = filter (λ e. shown e.hit) (entries_of net node table family)

abbrev pub shown_lookup : (Hit → Bool) → Network → ℕ → ℕ → Family → ℕ → Hit
shown_lookup shown net node table family a = hit_of (longest a (shown_entries shown net node table family))

-- an entry of the joined network is one of the old description
abbrev pub is_of_old : Network → Hit → Bool
is_of_old old (hits.Sid n) = nat_lt n (length old.sids)
is_of_old old hits.Address = true
is_of_old old (hits.Route n) = nat_lt n (length old.routes)
is_of_old old hits.Nothing = true

-- an item passes a test, or isn't there
abbrev pub passes_or_absent : {X : Type 0} → (X → Bool) → Option X → Bool
passes_or_absent test None = true
passes_or_absent test (Some x) = test x

-- the route or SID that a hit names passes its test, or isn't there
abbrev pub stays : (Route → Bool) → (SidEntry → Bool) → Network → Hit → Bool
stays route_test sid_test net (hits.Sid n) = passes_or_absent sid_test (slice_get net.sids n)
stays route_test sid_test net hits.Address = true
stays route_test sid_test net (hits.Route n) = passes_or_absent route_test (slice_get net.routes n)
stays route_test sid_test net hits.Nothing = true

-- an entry of the joined network is one of the new description: an old one that is kept, or one behind the old ones
abbrev pub is_of_new : Network → Network → Hit → Bool
is_of_new old new = stays (is_new_route new) (is_new_sid old new) old
