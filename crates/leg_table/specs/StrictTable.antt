-- The table of an intent's legs.
use Rattle.std.specs.Prelude.{ℕ, false, List, slice_get, Option, Some, None}
use Rattle.srv6_rules.specs.declared.sid.Csid.TheVariants.{Plain}
use Rattle.srv6_rules.specs.declared.sid.SidEntry.{SidEntry}
use Rattle.net_model.specs.Network.{Network}
use Rattle.net_model.specs.declared.parts.Block.{Block}
use Rattle.list_pack.specs.declared.types.Shape.{Shape}
use Rattle.list_pack.specs.SidLists.{block_at}
use Rattle.leg_table.specs.PositionSids.{takes_step}

-- what a SID is to the search: the block that it lies strictly inside by its number, its compression, and whether it is middle
abbrev pub shape_by : List Block → Option SidEntry → Shape
shape_by blocks None = record { prefix = record { value = 0; len = 0 }; block = None; lbl = 0; csid = Plain; middle = false }
shape_by blocks (Some s) =
    record { prefix = s.prefix; block = block_at blocks s.prefix; lbl = s.block_len; csid = s.csid; middle = takes_step s }

abbrev pub shape_of : Network → ℕ → Shape
shape_of net n = shape_by net.blocks (slice_get net.sids n)

-- the node of a SID
abbrev pub node_by : Option SidEntry → ℕ
node_by None = 0
node_by (Some s) = s.node

abbrev pub node_of : Network → ℕ → ℕ
node_of net n = node_by (slice_get net.sids n)
