-- Need not be believed: helps proofs and other laws.
-- The table of an intent's legs through binding SIDs.
use Rattle.std.specs.Prelude.{◌≡◌, ℕ, ◌+◌, ◌<◌, List, length, slice_get, Option, Some}
use Rattle.std.specs.Option.{option_and_then}
use Rattle.net_model.specs.Network.{Network}
use Rattle.intent_reader.specs.declared.intent.Intent.{Intent}
use Rattle.leg_table.specs.Courses.{behind_of}
use Rattle.leg_table.specs.StrictTableTerms.{LegTable}
use Rattle.leg_table.specs.declared.step_links.Behind.{Behind}
use Rattle.binding_spec.specs.declared.origin.Origin.{Origin}
use Rattle.binding_spec.specs.Origins.{binding_origin, transit_from}

-- a row has the origin behind each SID, by its number, for one position
pub record AreOriginsAt (net : Network) (intent : Intent) (position : ℕ) (row : List (Option Origin)) : Type 0 where
  pub count : length row ≡ length net.sids
  pub each : (sid : ℕ) → sid < length net.sids → slice_get row sid ≡ Some (binding_origin net intent position (Some sid))

-- the first rows, one for each position
pub record AreOrigins (net : Network) (intent : Intent) (count : ℕ) (rows : List (List (Option Origin))) : Type 0 where
  pub long : length rows ≡ count
  pub each : (position : ℕ) (row : List (Option Origin)) → slice_get rows position ≡ Some row → AreOriginsAt net intent position row

-- the strict legs are those of the network and the intent, and there is a row for each position
pub record IsBindingTable (net : Network) (intent : Intent) (strict : LegTable) (rows : List (List (Option Origin))) : Type 0 where
  pub strict_is : strict ≡ record { net = net; intent = intent }
  pub are_origins : AreOrigins net intent (length intent.steps + 1) rows

-- the way from the origin to a next SID
abbrev pub binding_way : Network → Intent → ℕ → Option ℕ → ℕ → Option Behind
binding_way net intent position via next =
    option_and_then (λ origin. behind_of net next (transit_from net intent next origin)) (binding_origin net intent position via)
