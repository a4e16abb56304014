-- SIDs that are nested in another SID of their node by the 16 bits after it (own rules over the NEXT-CSIDs of RFC 9800 section 4.1).
use Rattle.std.specs.Prelude.{◌≡◌, ◌≢◌, ℕ, ◌+◌, slice_get, Some, Contains}
use Rattle.v6_addr.specs.Address.{PrefixValue, IsInside, field_of}
use Rattle.srv6_rules.specs.declared.sid.Csid.TheVariants.{Next}
use Rattle.srv6_rules.specs.declared.sid.SidEntry.{SidEntry}
use Rattle.net_model.specs.declared.parts.Block.{Block}
use Rattle.net_model.specs.declared.parts.BlockKind.TheVariants as kinds
use Rattle.net_model.specs.Network.{Network}
use Rattle.net_model.specs.NetworkRules.{block_of}

-- 16 bits of a prefix from a bit on
abbrev pub unit_at : PrefixValue → ℕ → ℕ
unit_at p at = field_of p.value at 16

-- one SID alone stands on a prefix
abbrev pub IsAlone : Network → PrefixValue → Type 0
IsAlone net p =
    (n m : ℕ) (s t : SidEntry) → slice_get net.sids n ≡ Some s → slice_get net.sids m ≡ Some t → s.prefix ≡ p → t.prefix ≡ p → n ≡ m

-- an allowed nest: both SIDs lie in one NEXT block and stand at one node, each alone on its prefix; the outer has NEXT-CSID and 16 bits
-- after the block's, the inner lies inside it with 16 bits more, which are not all 0
pub record IsNest (net : Network) (outer inner : SidEntry) : Type 0 where
  pub block : Block
  pub of_outer : block_of net.blocks outer.prefix ≡ Some block
  pub of_inner : block_of net.blocks inner.prefix ≡ Some block
  pub kind : block.kind ≡ kinds.Next
  pub csid : outer.csid ≡ Next
  pub outer_len : outer.prefix.len ≡ block.prefix.len + 16
  pub inner_len : inner.prefix.len ≡ block.prefix.len + 32
  pub inside : IsInside inner.prefix outer.prefix
  pub some : unit_at inner.prefix (block.prefix.len + 16) ≢ 0
  pub node : outer.node ≡ inner.node
  pub outer_alone : IsAlone net outer.prefix
  pub inner_alone : IsAlone net inner.prefix

-- a SID may come directly after another in a container: its first 16 bits after the block's, which stand after the other's there, are not
-- those of a SID nested in the other
abbrev pub MayFollow : Network → PrefixValue → PrefixValue → Type 0
MayFollow net p next =
    (outer inner : SidEntry) → Contains net.sids outer → Contains net.sids inner → outer.prefix ≡ p → (nest : IsNest net outer inner)
    → unit_at next nest.block.prefix.len ≢ unit_at inner.prefix (nest.block.prefix.len + 16)
