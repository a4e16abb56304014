-- Need not be believed: helps proofs and other laws.
-- Terms beside those of `specs/Flat.antt`.
use Rattle.std.specs.Prelude.{◌+◌, ◌-◌, List, Some, Result, Ok, Err, ◌≡◌, ℕ, ◌*◌, ◌<◌, ◌≤◌, slice_get}
use Rattle.v6_addr.specs.Address.{PrefixValue, IsInside}
use Rattle.srv6_rules.specs.declared.sid.SidEntry.{SidEntry}
use Rattle.net_model.specs.declared.parts.Block.{Block}
use Rattle.net_flatness.specs.declared.not_flat.NotFlat.{NotFlat}
use Rattle.net_flatness.specs.declared.not_flat.NotFlat.TheVariants.{Nested, ZeroCsid, MixedBlock, Clash}
use Rattle.net_model.specs.Network.{Network}
use Rattle.net_flatness.specs.Nests.{IsNest}
use Rattle.net_flatness.specs.Flat.{InnerEntry, OfSid, OfRoute, OfAddress, address_prefix, entry_prefix, inner_entries, IsZeroIn, IsMixed, IsClash, NoneNested, NoneZero, NoneMixed, IsFlat}

-- ---- what a flat network has none of: pairs of an outer and an inner item

-- the entry lies strictly inside the SID's prefix; but for a SID that is nested in it
abbrev pub IsNested : Network → SidEntry → InnerEntry → Type 0
IsNested net outer (OfSid inner) = IsInside inner.prefix outer.prefix × (¬ IsNest net outer inner)
IsNested net outer (OfRoute inner) = IsInside inner.prefix outer.prefix
IsNested net outer (OfAddress inner) = IsInside (address_prefix inner) outer.prefix

-- ---- flat

-- after the block's bits the SID has some whole units of 16 bits
pub record HasWholeUnits (b : Block) (s : SidEntry) : Type 0 where
  pub units : ℕ
  pub some : 1 ≤ units
  pub len : s.prefix.len ≡ b.prefix.len + 16 * units

-- ---- the first refusal

-- at the places i and j stand an outer and an inner item, and they are a pair
abbrev pub IsPairAt : {X Y : Type 0} → (X → Y → Type 0) → List X → List Y → ℕ → ℕ → X → Y → Type 0
IsPairAt Pair outers inners i j outer inner = (slice_get outers i ≡ Some outer) × (slice_get inners j ≡ Some inner) × Pair outer inner

-- they are a pair, and none is before it: none of an earlier outer item, and none of this one with an earlier inner one
pub record IsFirst {X Y : Type 0} (Pair : X → Y → Type 0) (outers : List X) (inners : List Y) (outer : X) (inner : Y) : Type 0 where
  pub outer_place : ℕ
  pub inner_place : ℕ
  pub pair : IsPairAt Pair outers inners outer_place inner_place outer inner
  pub no_earlier_outer : (i j : ℕ) (x : X) (y : Y) → i < outer_place → ¬ IsPairAt Pair outers inners i j x y
  pub no_earlier_inner : (j : ℕ) (y : Y) → j < inner_place → ¬ IsPairAt Pair outers inners outer_place j outer y

-- the first SID with an entry nested in it that may not be, and the first such entry
pub record IsFirstNested (net : Network) (outer inner : PrefixValue) : Type 0 where
  pub sid : SidEntry
  pub entry : InnerEntry
  pub first : IsFirst (IsNested net) net.sids (inner_entries net) sid entry
  pub its_prefix : sid.prefix ≡ outer
  pub inner_prefix : entry_prefix entry ≡ inner

-- the first SID of CSID 0
pub record IsFirstZero (net : Network) (prefix : PrefixValue) : Type 0 where
  pub none_nested : NoneNested net
  pub sid : SidEntry
  pub block : Block
  pub first : IsFirst IsZeroIn net.sids net.blocks sid block
  pub its_prefix : sid.prefix ≡ prefix

-- the first block with such a SID, and the first such SID
pub record IsFirstMixed (net : Network) (block_prefix prefix : PrefixValue) : Type 0 where
  pub none_nested : NoneNested net
  pub none_zero : NoneZero net
  pub block : Block
  pub sid : SidEntry
  pub first : IsFirst IsMixed net.blocks net.sids block sid
  pub its_block : block.prefix ≡ block_prefix
  pub its_prefix : sid.prefix ≡ prefix

-- the first SID with a clash, and the first that it clashes with, which is a later one
pub record IsFirstClash (net : Network) (prefix : PrefixValue) (first_node second_node : ℕ) : Type 0 where
  pub none_nested : NoneNested net
  pub none_zero : NoneZero net
  pub none_mixed : NoneMixed net
  pub earlier : SidEntry
  pub later : SidEntry
  pub first : IsFirst IsClash net.sids net.sids earlier later
  pub in_order : first.outer_place < first.inner_place
  pub its_prefix : earlier.prefix ≡ prefix
  pub its_node : earlier.node ≡ first_node
  pub other_node : later.node ≡ second_node

-- of a network of which nothing is hidden: a flat one is accepted; another is refused with its first nested pair, else with its first CSID
-- 0, else with its first block that a SID does not fit, else with its first clash
abbrev pub IsJudged : Network → Result (Unit {0}) NotFlat → Type 0
IsJudged net (Ok accepted) = IsFlat net
IsJudged net (Err (Nested outer inner)) = IsFirstNested net outer inner
IsJudged net (Err (ZeroCsid prefix)) = IsFirstZero net prefix
IsJudged net (Err (MixedBlock block prefix)) = IsFirstMixed net block prefix
IsJudged net (Err (Clash prefix first second)) = IsFirstClash net prefix first second
