-- What the legs of an intent through binding SIDs are to a search.
use Rattle.std.specs.Prelude.{ℕ, if◌then◌else◌, length, Option, None}
use Rattle.net_model.specs.Network.{Network}
use Rattle.intent_reader.specs.declared.intent.Intent.{Intent}
use Rattle.intent_reader.specs.Preferences.{sid_cost_of}
use Rattle.list_pack.specs.declared.types.Leg.{Leg}
use Rattle.list_pack.specs.declared.types.Shape.{Shape}
use Rattle.list_pack.specs.LegsValue.{LegsValue}
use Rattle.leg_table.specs.StrictLegs.{leg_behind, finish_behind}
use Rattle.leg_table.specs.NestLegs.{stays_of}
use Rattle.leg_table.specs.PositionSids.{is_last, sids_of}
use Rattle.leg_table.specs.StrictTable.{shape_of, node_of}
use Rattle.binding_spec.specs.Origins.{leads_on, binding_transit}

-- the leg to a next SID that leads on: the transit there from the origin, and the execution
abbrev pub binding_leg : Network → Intent → ℕ → Option ℕ → ℕ → Option Leg
binding_leg net intent position via next =
    if leads_on net next then leg_behind net (length intent.steps) next (binding_transit net intent position via next) else None

-- how often the hop limit is lowered on the way to the last SID
abbrev pub binding_finish : Network → Intent → ℕ → Option ℕ → ℕ → Option ℕ
binding_finish net intent position via next =
    if is_last net intent.inner next then finish_behind net next (binding_transit net intent position via next) else None

-- binding SIDs are middle too
abbrev pub binding_shape : Network → ℕ → Shape
binding_shape net n = record (shape_of net n) { middle = leads_on net n }

abbrev pub binding_legs_value : Network → Intent → LegsValue
binding_legs_value net intent =
    record {
      steps = length intent.steps;
      sids_at = sids_of net intent;
      shape = binding_shape net;
      node = node_of net;
      leg = binding_leg net intent;
      finish = binding_finish net intent;
      stays = stays_of net;
      sid_cost = sid_cost_of intent.prefer;
    }
