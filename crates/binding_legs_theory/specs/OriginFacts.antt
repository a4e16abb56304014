-- Need not be believed: helps proofs and other laws.
-- What holds of the place from which a packet goes on.
use Rattle.std.specs.Prelude.{ℕ, ◌≤◌}
use Rattle.net_model.specs.Network.{Network}
use Rattle.intent_reader.specs.declared.intent.Intent.{Intent}
use Rattle.leg_table.specs.TransitTables.{IsOrigin}
use Rattle.binding_spec.specs.declared.origin.Origin.{Origin}

-- what holds of an origin at a position: no fewer steps are done than there, and the place is one of the network, where the walk stands after
-- those that are done
pub record OriginsFrom (net : Network) (intent : Intent) (position : ℕ) (origin : Origin) : Type 0 where
  pub from : position ≤ origin.done
  pub is_origin : IsOrigin net intent origin.done origin.place
