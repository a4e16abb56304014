-- Need not be believed: helps proofs and other laws.
-- Terms beside those of `specs/Network.antt`.
use Rattle.std.specs.Prelude.{◌≡◌, ℕ, ◌+◌, Bool, false, if◌then◌else◌, List, [], ◌∷◌, ◌++◌, map, length, slice_get, slice_set, Some, IsSome}
use Rattle.net_model.specs.declared.parts.Route.{Route}
use Rattle.net_model.specs.declared.parts.NetParts.{NetParts}
use Rattle.net_model.specs.declared.net.Hit.{Hit}
use Rattle.net_model.specs.declared.net.Hit.TheVariants as hits
use Rattle.net_model.specs.declared.hidden.Hidden.{Hidden}
use Rattle.net_model.specs.declared.net.EntryId.{EntryId}
use Rattle.net_model.specs.declared.net.EntryId.TheVariants as entries
use Rattle.net_model.specs.Network.{Network, same_hit, is_shown, hit_of_entry}

-- a network as its description has it: nothing is hidden
abbrev pub network_of : NetParts → Network
network_of p = record {
  blocks = p.blocks.items;
  nodes = p.nodes.items;
  links = p.links.items;
  routes = p.routes.items;
  policies = p.policies.items;
  titles = p.titles.items;
  sids = p.sids.items;
  hidden = [];
}

-- ---- what is hidden

-- those whose flag is set, the first of which has the number n
abbrev pub flagged : (ℕ → Hit) → ℕ → List Bool → List Hit
flagged hit n [] = []
flagged hit n (flag ∷ flags) = if flag then hit n ∷ flagged hit (n + 1) flags else flagged hit (n + 1) flags

-- what is hidden by flags: SIDs, then routes
abbrev pub hidden_hits : Hidden → List Hit
hidden_hits h = flagged hits.Sid 0 h.sids.items ++ flagged hits.Route 0 h.routes.items

-- the network of parts with what is hidden by flags
abbrev pub network_with : NetParts → Hidden → Network
network_with p hidden = record (network_of p) { hidden = hidden_hits hidden }

-- there is a flag for each route and each SID
abbrev pub HasFlags : NetParts → Hidden → Type 0
HasFlags p hidden = (length hidden.routes.items ≡ length p.routes.items) × (length hidden.sids.items ≡ length p.sids.items)

-- the flag of an entry is set or cleared
abbrev pub route_flags : EntryId → Bool → List Bool → List Bool
route_flags (entries.Route n) flag flags = slice_set flags n flag
route_flags (entries.Sid n) flag flags = flags
route_flags (entries.Address n) flag flags = flags

abbrev pub sid_flags : EntryId → Bool → List Bool → List Bool
sid_flags (entries.Route n) flag flags = flags
sid_flags (entries.Sid n) flag flags = slice_set flags n flag
sid_flags (entries.Address n) flag flags = flags

abbrev pub IsMarked : Hidden → Hidden → EntryId → Bool → Type 0
IsMarked old new entry flag =
    (new.routes.items ≡ route_flags entry flag old.routes.items) × (new.sids.items ≡ sid_flags entry flag old.sids.items)

-- the entry is a route or a SID of the network, which alone can be hidden
abbrev pub CanHide : Network → EntryId → Type 0
CanHide net (entries.Route n) = IsSome (slice_get net.routes n)
CanHide net (entries.Sid n) = IsSome (slice_get net.sids n)
CanHide net (entries.Address n) = ⊥

-- the entries are routes and SIDs of a network
abbrev pub CanHideAll : Network → List EntryId → Type 0
CanHideAll net es = (i : ℕ) (entry : EntryId) → slice_get es i ≡ Some entry → CanHide net entry

-- the entries are hidden, and no others
abbrev pub HidesThese : List Hit → List EntryId → Type 0
HidesThese hidden es = (h : Hit) → is_shown hidden h ≡ is_shown (map hit_of_entry es) h

-- an entry comes or goes: it is shown now or not, every other is as before, and so is all else of the network
pub record IsEdited (old new : Network) (h : Hit) (shown : Bool) : Type 0 where
  pub same : new ≡ record old { hidden = new.hidden }
  pub there : is_shown new.hidden h ≡ shown
  pub others : (k : Hit) → same_hit h k ≡ false → is_shown new.hidden k ≡ is_shown old.hidden k
