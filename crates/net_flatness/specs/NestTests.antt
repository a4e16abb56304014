-- Nested SIDs as tests.
use Rattle.std.specs.Prelude.{◌+◌, Bool, true, false, ◌==◌, ◌&&◌, not, nat_le, count_by, List, Option, Some, None}
use Rattle.v6_addr.specs.Address.{PrefixValue, is_inside}
use Rattle.srv6_rules.specs.declared.sid.SidEntry.{SidEntry}
use Rattle.srv6_rules.specs.CompressedSteps.{is_next}
use Rattle.net_model.specs.declared.parts.Block.{Block}
use Rattle.net_model.specs.declared.parts.BlockKind.{BlockKind}
use Rattle.net_model.specs.declared.parts.BlockKind.TheVariants as kinds
use Rattle.net_model.specs.Network.{Network}
use Rattle.net_model.specs.NetworkRules.{same_prefix, block_of}
use Rattle.net_flatness.specs.Nests.{unit_at}

abbrev pub same_kind : BlockKind → BlockKind → Bool
same_kind kinds.Next kinds.Next = true
same_kind kinds.Next kinds.Replace = false
same_kind kinds.Replace kinds.Next = false
same_kind kinds.Replace kinds.Replace = true

abbrev pub same_block : Block → Block → Bool
same_block b c = same_prefix b.prefix c.prefix && (same_kind b.kind c.kind && (b.csid == c.csid))

abbrev pub is_on : PrefixValue → SidEntry → Bool
is_on p s = same_prefix s.prefix p

-- at most one of these SIDs stands on the prefix
abbrev pub is_alone : List SidEntry → PrefixValue → Bool
is_alone sids p = nat_le (count_by (is_on p) sids) 1

-- 16 bits after a block and 32, of NEXT-CSID outside, at one node; the inner one's further bits are not all 0
abbrev pub are_units : Block → SidEntry → SidEntry → Bool
are_units b outer inner =
    same_kind b.kind kinds.Next && (is_next outer.csid && ((outer.prefix.len == b.prefix.len + 16)
    && ((inner.prefix.len == b.prefix.len + 32) && (is_inside inner.prefix outer.prefix
    && (not (unit_at inner.prefix (b.prefix.len + 16) == 0) && (outer.node == inner.node))))))

-- two SIDs in these blocks are an allowed nest
abbrev pub is_nest_in : List SidEntry → Option Block → Option Block → SidEntry → SidEntry → Bool
is_nest_in sids None of_inner outer inner = false
is_nest_in sids (Some b) None outer inner = false
is_nest_in sids (Some b) (Some c) outer inner =
    same_block b c && (are_units b outer inner && (is_alone sids outer.prefix && is_alone sids inner.prefix))

unfoldable pub is_nest : Network → SidEntry → SidEntry → Bool
is_nest net outer inner = is_nest_in net.sids (block_of net.blocks outer.prefix) (block_of net.blocks inner.prefix) outer inner
