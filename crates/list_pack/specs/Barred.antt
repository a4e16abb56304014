-- Need not be believed: helps proofs and other laws.
-- What may not come directly after a SID in a full container: what the code of `is_legal` goes by.
use Rattle.std.specs.Prelude.{◌≡◌, ◌+◌, Contains}
use Rattle.v6_addr.specs.Address.{PrefixValue}
use Rattle.srv6_rules.specs.declared.sid.SidEntry.{SidEntry}
use Rattle.net_model.specs.Network.{Network}
use Rattle.net_flatness.specs.Nests.{unit_at, IsNest}

-- a SID is nested in the outer one, and has after it the bits that the next prefix has after the block
pub record Bars (net : Network) (next : PrefixValue) (outer inner : SidEntry) : Type 0 where
  pub nest : IsNest net outer inner
  pub same : unit_at next nest.block.prefix.len ≡ unit_at inner.prefix (nest.block.prefix.len + 16)

-- some SID nested in the outer one does
abbrev pub SomeBars : Network → PrefixValue → SidEntry → Type 0
SomeBars net next outer = (inner : SidEntry) × Contains net.sids inner × Bars net next outer inner

-- the outer one stands on a prefix
abbrev pub BarsAfter : Network → PrefixValue → PrefixValue → SidEntry → Type 0
BarsAfter net p next outer = (outer.prefix ≡ p) × SomeBars net next outer
