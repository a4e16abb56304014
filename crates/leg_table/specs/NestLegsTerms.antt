-- Need not be believed: helps proofs and other laws.
-- Terms beside those of `specs/NestLegs.antt`.
use Rattle.std.specs.Prelude.{◌≡◌, ℕ, length, List, map, slice_get, All, Some}
use Rattle.srv6_rules.specs.declared.sid.SidEntry.{SidEntry}
use Rattle.net_model.specs.Network.{Network}
use Rattle.net_flatness.specs.Nests.{MayFollow}
use Rattle.net_flatness.specs.Units.{AreNestedUnits}
use Rattle.sid_list_spec.specs.SegmentLists.{ListSid, Container, Full, Packed, prefix_of}
use Rattle.sid_list_theory.specs.ListPlaces.{ListPlace, InFull, InPacked}
use Rattle.list_pack.specs.SidLists.{IsSidPrefix, FollowOn, list_sid}

-- ---- two SIDs

-- the units of the SIDs nested in each of the first SIDs
pub record AreNested (net : Network) (count : ℕ) (nested : List (List ℕ)) : Type 0 where
  pub long : length nested ≡ count
  pub units : (n : ℕ) (s : SidEntry) (units : List ℕ) → slice_get net.sids n ≡ Some s → slice_get nested n ≡ Some units
      → AreNestedUnits net s units

-- ---- the places of a list

-- a SID as lists know it is one of the network
abbrev pub IsListSid : Network → ListSid → Type 0
IsListSid net s = IsSidPrefix net s.prefix × (s ≡ list_sid net s.prefix)

-- the further SIDs of a full container are SIDs of the network, each of which may come directly after the one before it
pub record FullKeeps (net : Network) (s : ListSid) (ss : List ListSid) : Type 0 where
  pub sids : All (IsListSid net) ss
  pub may : FollowOn (MayFollow net) s.prefix (map prefix_of ss)

abbrev pub ContainerKeeps : Network → Container → Type 0
ContainerKeeps net (Full s ss) = FullKeeps net s ss
ContainerKeeps net (Packed s ss) = Unit {0}

abbrev pub ListKeeps : Network → List Container → Type 0
ListKeeps net cs = All (ContainerKeeps net) cs

-- the same of what is left of a list at a place
abbrev pub PlaceKeeps : Network → ListPlace → Type 0
PlaceKeeps net (InFull s ss cs) = FullKeeps net s ss × ListKeeps net cs
PlaceKeeps net (InPacked bs s ss cs) = ListKeeps net cs
