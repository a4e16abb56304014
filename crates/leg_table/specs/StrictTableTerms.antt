-- Need not be believed: helps proofs and other laws.
-- Terms beside those of `specs/StrictTable.antt`.
use Rattle.std.specs.Prelude.{◌≡◌, ℕ, ◌+◌, ◌≤◌, List, length, slice_get, Some}
use Rattle.net_model.specs.Network.{Network}
use Rattle.net_model.specs.NetworkRulesTerms.{IsNetwork}
use Rattle.net_flatness.specs.Flat.{IsFlat}
use Rattle.intent_reader.specs.IntentRulesTerms.{IsIntent}
use Rattle.intent_reader.specs.declared.intent.Intent.{Intent}
use Rattle.leg_table.specs.declared.transit_table.TransitTable.{TransitTable}
use Rattle.leg_table.specs.PositionSids.{sids_of}
use Rattle.leg_table.specs.TransitTables.{AreReaches}
use Rattle.leg_table.specs.NestLegsTerms.{AreNested}

-- a table is that of an intent in a network
pub record LegTable : Type 0 where
  pub net : Network
  pub intent : Intent

-- the rows are the SIDs of the positions up to a last one
abbrev pub AreRows : Network → Intent → ℕ → List (List ℕ) → Type 0
AreRows net intent last rows =
    (length rows ≡ last + 1) × ((position : ℕ) → position ≤ last → slice_get rows position ≡ Some (sids_of net intent position))

-- the intent keeps the rules in the network, which is flat, the rows are the SIDs of its positions, the ways are those from their nodes,
-- and the units those of the SIDs nested in each SID
pub record IsTable (net : Network) (intent : Intent) (rows : List (List ℕ)) (reaches : List TransitTable) (nested : List (List ℕ)) : Type 0 where
  pub network : IsNetwork net
  pub flat : IsFlat net
  pub is_intent : IsIntent net intent
  pub are_rows : AreRows net intent (length intent.steps) rows
  pub are_reaches : AreReaches net intent.headend intent.steps reaches
  pub are_nested : AreNested net (length net.sids) nested
