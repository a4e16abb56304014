-- Need not be believed: helps proofs and other laws.
-- How lists are read back from their values.
use Rattle.std.specs.Prelude.{◌≡◌, ◌≢◌, ◌⊎◌, ℕ, ◌+◌, ◌<◌, ◌≤◌, Bool, true, false, ◌==◌, ◌&&◌, List, [], ◌∷◌, map, All, Option, Some, None, slice_get}
use Rattle.v6_addr.specs.Address.{PrefixValue, Holds, IsInside}
use Rattle.v6_addr.specs.AddressTerms.{IsPrefix}
use Rattle.v6_addr.specs.declared.address.Addr.{Addr}
use Rattle.srv6_rules.specs.Compressed.{argument_of, csid_of, shift_of}
use Rattle.srv6_rules.specs.CompressedTerms.{IsCsidLen}
use Rattle.srv6_rules.specs.declared.sid.Csid.TheVariants.{Replace}
use Rattle.srv6_rules.specs.declared.sid.SidEntry.{SidEntry}
use Rattle.net_model.specs.Network.{Network}
use Rattle.net_model.specs.declared.parts.Block.{Block}
use Rattle.sid_list_spec.specs.SegmentLists.{SidBlock, Follow, IsPacked, block_len, full_value, packed_value}
use Rattle.sid_list_theory.specs.SegmentListsTerms.{IsFlatSid, IsFlatList}
use Rattle.list_pack.specs.declared.types.Container.{Container}
use Rattle.list_pack.specs.declared.types.Container.TheVariants.{Full, Packed}
use Rattle.list_pack.specs.PathLists.{asked_after}
use Rattle.list_pack.specs.SidLists.{IsLegalList, IsSidPrefix, KeepsNests, list_in, list_sid, list_values, prefixes_in}

-- ---- the longest prefix of a SID that has an address in it

-- of the first SIDs, so many
pub record IsLongestOf (sids : List SidEntry) (count address : ℕ) (p : PrefixValue) : Type 0 where
  pub number : ℕ
  pub sid : SidEntry
  pub there : slice_get sids number ≡ Some sid
  pub prefix : sid.prefix ≡ p
  pub held : Holds p address
  pub most : (n : ℕ) (s : SidEntry) → n < count → slice_get sids n ≡ Some s → Holds s.prefix address → s.prefix.len ≤ p.len

abbrev pub LongestOf : List SidEntry → ℕ → ℕ → Option PrefixValue → Type 0
LongestOf sids count address None = (n : ℕ) (s : SidEntry) → n < count → slice_get sids n ≡ Some s → ¬ Holds s.prefix address
LongestOf sids count address (Some p) = IsLongestOf sids count address p

-- ---- blocks

-- what a block of a network is in bits
pub record IsSized (b : Block) : Type 0 where
  pub csid : IsCsidLen b.csid
  pub short : b.prefix.len ≤ 64

-- a prefix lies strictly inside a block, with as many bits more as a CSID of the block, which are this one
pub record HasCsid (block : PrefixValue) (width csid : ℕ) (p : PrefixValue) : Type 0 where
  pub inside : IsInside p block
  pub len : p.len ≡ block.len + width
  pub value : csid_of block.len p ≡ csid

-- ---- containers at an address

-- a full container of a SID and others after it, which is legal alone, with a value
pub record IsFullAt (net : Network) (p : PrefixValue) (more : List PrefixValue) (address : ℕ) : Type 0 where
  pub legal : IsLegalList net (Full p more ∷ [])
  pub value : full_value (list_sid net p) (map (list_sid net) more) ≡ address

-- a REPLACE container of a block
pub record IsPackedAt (net : Network) (b : SidBlock) (sids : List PrefixValue) (entry : ℕ) : Type 0 where
  pub kind : b.kind ≡ Replace
  pub packed : IsPacked (Some b) (map (list_sid net) sids)
  pub flat : All IsFlatSid (map (list_sid net) sids)
  pub named : All (IsSidPrefix net) sids
  pub value : packed_value (Some b) (map (list_sid net) sids) ≡ entry

-- a container that may come where a REPLACE container of a block has to, or a full one
abbrev pub IsAt : Network → Option SidBlock → Container → ℕ → Type 0
IsAt net None (Full p more) address = IsFullAt net p more address
IsAt net None (Packed p more) address = ⊥
IsAt net (Some b) (Full p more) address = ⊥
IsAt net (Some b) (Packed p more) address = IsPackedAt net b (p ∷ more) address

-- the block whose REPLACE container has to follow it, if one has to
abbrev pub asked_behind : Network → Option SidBlock → Container → Option SidBlock
asked_behind net asked (Full p more) = asked_after asked (list_sid net p) (map (list_sid net) more)
asked_behind net asked (Packed p more) = asked_after asked (list_sid net p) (map (list_sid net) more)

-- containers that may come there, with values
pub record AreAt (net : Network) (asked : Option SidBlock) (list : List Container) (told : List ℕ) : Type 0 where
  pub follow : Follow asked (list_in net list)
  pub replace : (b : SidBlock) → asked ≡ Some b → b.kind ≡ Replace
  pub flat : IsFlatList (list_in net list)
  pub named : All (IsSidPrefix net) (prefixes_in list)
  pub nests : All (KeepsNests net) list
  pub values : list_values net list ≡ told

-- ---- what the code's steps find

-- the address with which the SID after one comes in a full container: what is behind the one is moved up to its block; none where nothing is
-- behind it, or where it isn't longer than its block
abbrev pub NextAt : Network → PrefixValue → ℕ → Option Addr → Type 0
NextAt net p address None = (argument_of address p.len ≡ 0) ⊎ (p.len ≤ block_len (list_sid net p).block)
NextAt net p address (Some next) =
    (argument_of address p.len ≢ 0) × (next.value ≡ shift_of address (block_len (list_sid net p).block) p.len)

-- the prefix of a SID of a block with a CSID, of the first SIDs, so many
abbrev pub PrefixWith : List SidEntry → ℕ → Block → ℕ → Option PrefixValue → Type 0
PrefixWith sids count b csid None =
    (n : ℕ) (s : SidEntry) → n < count → slice_get sids n ≡ Some s → ¬ HasCsid b.prefix b.csid csid s.prefix
PrefixWith sids count b csid (Some p) = IsPrefix p × HasCsid b.prefix b.csid csid p

-- two lists of addresses have the same values
abbrev pub equal_values : List Addr → List Addr → Bool
equal_values [] [] = true
equal_values [] (b ∷ bs) = false
equal_values (a ∷ rest) [] = false
equal_values (a ∷ rest) (b ∷ bs) = (a.value == b.value) && equal_values rest bs
