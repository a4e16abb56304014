-- Legs and finishes by the way that was found.
use Rattle.std.proofs.Common.{◌≡◌, ℕ, Bool, true, if◌then◌else◌, length, Option, Some, None, refl, sym, ap, ◌∙◌}
use Rattle.std.specs.Option.{option_map, option_and_then}
use Rattle.net_model.specs.Network.{Network}
use Rattle.intent_reader.specs.declared.intent.Intent.{Intent}
use Rattle.leg_table.specs.Courses.{behind_of, finish_from_behind, leg_from_behind}
use Rattle.leg_table.specs.StrictLegs.{finish_behind, leg_behind}
use Rattle.leg_table.specs.PositionSids.{is_last}
use Rattle.leg_table.proofs.PublicLaws.{leg_by, finish_by}
use Rattle.binding_spec.specs.declared.origin.Origin.{Origin}
use Rattle.binding_spec.specs.Origins.{binding_transit, binding_origin, leads_on, transit_from}
use Rattle.binding_spec.specs.BindingLegsValue.{binding_finish, binding_leg}
use Rattle.binding_legs.specs.BindingTable.{binding_way}

module _ (net : Network) (intent : Intent) (position : ℕ) (via : Option ℕ) (next : ℕ) where
  way_transit : binding_way net intent position via next ≡ behind_of net next (binding_transit net intent position via next)
  way_transit = by_origin (binding_origin net intent position via)
    where
      by_origin : (o : Option Origin)
          → option_and_then (λ (s : Origin). behind_of net next (transit_from net intent next s)) o
          ≡ behind_of net next (option_and_then (transit_from net intent next) o)
      by_origin None = refl
      by_origin (Some s) = refl

  pub leg_way : leads_on net next ≡ true
      → option_map (leg_from_behind (length intent.steps)) (binding_way net intent position via next)
      ≡ binding_leg net intent position via next
  leg_way leads =
      ap (option_map (leg_from_behind (length intent.steps))) way_transit
      ∙ leg_by net next (length intent.steps) (binding_transit net intent position via next)
      ∙ ap (λ (b : Bool). if b then leg_behind net (length intent.steps) next (binding_transit net intent position via next) else None)
      (sym leads)

  pub finish_way : is_last net intent.inner next ≡ true
      → option_and_then finish_from_behind (binding_way net intent position via next) ≡ binding_finish net intent position via next
  finish_way last =
      ap (option_and_then finish_from_behind) way_transit ∙ finish_by net next (binding_transit net intent position via next)
      ∙ ap (λ (b : Bool). if b then finish_behind net next (binding_transit net intent position via next) else None) (sym last)
