-- Need not be believed: helps proofs and other laws.
-- The units of the SIDs nested in a SID.
use Rattle.std.specs.Prelude.{◌≡◌, ◌⊎◌, ◌↔◌, ℕ, ◌+◌, ◌<◌, List, slice_get, Some, Contains}
use Rattle.v6_addr.specs.Address.{PrefixValue, IsInside}
use Rattle.srv6_rules.specs.declared.sid.SidEntry.{SidEntry}
use Rattle.net_model.specs.Network.{Network}
use Rattle.net_flatness.specs.Nests.{unit_at, IsNest, MayFollow}

-- some SID nested in the SID has these 16 bits after the SID's
abbrev pub IsNestedUnit : Network → SidEntry → ℕ → Type 0
IsNestedUnit net s unit =
    (inner : SidEntry) × Contains net.sids inner × IsNest net s inner × (unit ≡ unit_at inner.prefix (s.block_len + 16))

-- the units of all SIDs nested in the SID: a SID may come directly after it in a container where its first unit after the block's is none
-- of them
pub record AreNestedUnits (net : Network) (s : SidEntry) (units : List ℕ) : Type 0 where
  pub all : (unit : ℕ) → Contains units unit ↔ IsNestedUnit net s unit
  pub follow : (next : PrefixValue) → MayFollow net s.prefix next ↔ (¬ Contains units (unit_at next s.block_len))

-- ---- how they are gathered

-- a SID lies strictly inside another, with these 16 bits after it
abbrev pub IsUnitIn : SidEntry → SidEntry → ℕ → Type 0
IsUnitIn s inner unit = IsInside inner.prefix s.prefix × (unit ≡ unit_at inner.prefix s.prefix.len)

-- the units of one SID more
abbrev pub GetsUnit : List ℕ → List ℕ → SidEntry → SidEntry → Type 0
GetsUnit old new s inner = (unit : ℕ) → Contains new unit ↔ (Contains old unit ⊎ IsUnitIn s inner unit)

-- the units of the first of these SIDs
abbrev pub AreFirstUnits : List SidEntry → SidEntry → ℕ → List ℕ → Type 0
AreFirstUnits sids s count units =
    (unit : ℕ) → Contains units unit
    ↔ ((k : ℕ) × (inner : SidEntry) × (k < count) × (slice_get sids k ≡ Some inner) × IsUnitIn s inner unit)
