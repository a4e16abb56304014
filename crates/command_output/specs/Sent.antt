-- Need not be believed: helps proofs and other laws.
-- What a walk's end names is there.
use Rattle.std.specs.Prelude.{◌<◌, length, ⊤}
use Rattle.net_model.specs.Network.{Network}
use Rattle.walk_rules.specs.declared.place.Ended.{Ended}
use Rattle.walk_rules.specs.declared.place.Ended.TheVariants as ends

-- the link or the node that an end names is there
abbrev pub IsEnd : Network → Ended → Type 0
IsEnd net (ends.Left link) = link < length net.links
IsEnd net (ends.Delivered node) = node < length net.nodes
IsEnd net (ends.Dropped node reason) = node < length net.nodes
IsEnd net ends.Stages = ⊤
