-- The names of nodes have room.
use Rattle.std.proofs.Common.{◌≡◌, ℕ, ◌≤◌, Some, length}
use Rattle.std.specs.List.{slice_get}
use Rattle.std.proofs.lemmas.Bool.{and_parts, leb-true}
use Rattle.net_model.specs.declared.limits.TheConstants.{MAX_NAME_BYTES}
use Rattle.net_model.specs.declared.parts.Node.{Node}
use Rattle.net_model.specs.Network.{Network}
use Rattle.net_model.specs.NetworkKeeps.{Keeps}

pub name_fits : (net : Network) (n : ℕ) (node : Node) → Keeps net → slice_get net.nodes n ≡ Some node → length node.name ≤ MAX_NAME_BYTES
name_fits net n node keeps at =
    let name = and_parts _ _ (keeps.node n node at).name in
    leb-true _ _ (and_parts _ _ name.1).0
