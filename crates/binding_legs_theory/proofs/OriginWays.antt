-- Legs and finishes through binding SIDs, taken apart: an origin, the transit from there, and the execution at its end.
use Rattle.std.proofs.Common.{◌≡◌, ℕ, true, drop, length, Option, Some, None, slice_get, refl, ap, ◌∙◌}
use Rattle.std.proofs.lemmas.Bool.{false≢true}
use Rattle.srv6_rules.specs.declared.sid.SidEntry.{SidEntry}
use Rattle.srv6_rules.specs.Behaviours.{goes_on}
use Rattle.net_model.specs.Network.{Network}
use Rattle.intent_reader.specs.declared.intent.Intent.{Intent}
use Rattle.list_pack.specs.declared.types.Leg.{Leg}
use Rattle.leg_table.specs.StrictLegs.{leg_with, left_behind, leg_behind, finish_behind, if_none_left}
use Rattle.leg_table.specs.Transits.{Transit, transit_of}
use Rattle.leg_table.specs.PositionSids.{sid_address, is_last}
use Rattle.leg_table.specs.StepMatching.{left_after}
use Rattle.leg_table.proofs.PublicLaws.{behind_parts, behind_from, leg_behind_parts, finish_behind_parts}
use Rattle.tunnel_walks_theory.proofs.PublicLaws.{then_parts, then_from, map_from, if_parts, if_from}
use Rattle.binding_spec.specs.declared.origin.Origin.{Origin}
use Rattle.binding_spec.specs.Origins.{sid_leads_on, leads_on, binding_origin, transit_from, binding_transit}
use Rattle.binding_spec.specs.BindingLegsValue.{binding_leg, binding_finish}

pub leads_on_sid : (net : Network) (n : ℕ) → leads_on net n ≡ true
    → (s : SidEntry) × (slice_get net.sids n ≡ Some s) × (goes_on s ≡ true)
leads_on_sid net n h = by_sid (slice_get net.sids n) refl h
  where
    by_sid : (o : Option SidEntry) → slice_get net.sids n ≡ o → sid_leads_on o ≡ true
        → (s : SidEntry) × (slice_get net.sids n ≡ Some s) × (goes_on s ≡ true)
    by_sid None e h = absurd (false≢true h)
    by_sid (Some s) e h = (s, e, h)

module _ (net : Network) (intent : Intent) where
  -- an origin, and the transit from there to a SID, with so many steps left behind its execution
  pub record WayTo (position : ℕ) (via : Option ℕ) (n left : ℕ) : Type 0 where
    pub origin : Origin
    pub origins : binding_origin net intent position via ≡ Some origin
    pub transit : Transit
    pub is_transit : transit_of net (sid_address net n) (drop origin.done intent.steps) origin.place ≡ Some transit
    pub sid : transit.sid ≡ n
    pub left_is : left_after net n transit.left ≡ Some left

  abbrev way_parts : (position : ℕ) (via : Option ℕ) (n left : ℕ) (r : Transit) → binding_transit net intent position via n ≡ Some r
      → left_behind net n r ≡ Some left → WayTo position via n left
  way_parts position via n left r h k =
      let a = then_parts (transit_from net intent n) (binding_origin net intent position via) r h in
      let b = behind_parts net n r left k in
      record { origin = a.0; origins = a.1; transit = r; is_transit = a.2; sid = b.0; left_is = b.1 }

  way_transit : (position : ℕ) (via : Option ℕ) (n left : ℕ) (w : WayTo position via n left)
      → binding_transit net intent position via n ≡ Some w.transit
  way_transit position via n left w = then_from (transit_from net intent n) w.origins w.is_transit

  way_left : (position : ℕ) (via : Option ℕ) (n left : ℕ) (w : WayTo position via n left) → left_behind net n w.transit ≡ Some left
  way_left position via n left w = behind_from net n w.transit left w.sid w.left_is

  -- a leg is such a way to a SID that leads on
  pub record LegParts (position : ℕ) (via : Option ℕ) (n : ℕ) (leg : Leg) : Type 0 where
    pub left : ℕ
    pub way : WayTo position via n left
    pub leads : leads_on net n ≡ true
    pub is : leg_with (length intent.steps) way.transit.lowered left ≡ leg

  pub leg_parts : (position : ℕ) (via : Option ℕ) (n : ℕ) (leg : Leg) → binding_leg net intent position via n ≡ Some leg
      → LegParts position via n leg
  leg_parts position via n leg h =
      let transit = binding_transit net intent position via n in
      let a = if_parts (leads_on net n) (leg_behind net (length intent.steps) n transit) leg h in
      let got = leg_behind_parts net (length intent.steps) n transit leg a.1 in
      record { left = got.2; way = way_parts position via n got.2 got.0 got.1 got.3; leads = a.0; is = got.4 }

  pub leg_from : (position : ℕ) (via : Option ℕ) (n left : ℕ) (w : WayTo position via n left) → leads_on net n ≡ true
      → binding_leg net intent position via n ≡ Some (leg_with (length intent.steps) w.transit.lowered left)
  leg_from position via n left w leads =
      if_from leads
      (ap (leg_behind net (length intent.steps) n) (way_transit position via n left w)
      ∙ map_from (leg_with (length intent.steps) w.transit.lowered) (way_left position via n left w) refl)

  -- a finish is one to a last SID, with no step left
  pub record FinishParts (position : ℕ) (via : Option ℕ) (n lowered : ℕ) : Type 0 where
    pub way : WayTo position via n 0
    pub last : is_last net intent.inner n ≡ true
    pub is : way.transit.lowered ≡ lowered

  pub finish_parts : (position : ℕ) (via : Option ℕ) (n lowered : ℕ) → binding_finish net intent position via n ≡ Some lowered
      → FinishParts position via n lowered
  finish_parts position via n lowered h =
      let transit = binding_transit net intent position via n in
      let a = if_parts (is_last net intent.inner n) (finish_behind net n transit) lowered h in
      let got = finish_behind_parts net n transit lowered a.1 in
      record { way = way_parts position via n 0 got.0 got.1 got.2; last = a.0; is = got.3 }

  pub finish_from : (position : ℕ) (via : Option ℕ) (n : ℕ) (w : WayTo position via n 0) → is_last net intent.inner n ≡ true
      → binding_finish net intent position via n ≡ Some w.transit.lowered
  finish_from position via n w last =
      if_from last
      (ap (finish_behind net n) (way_transit position via n 0 w)
      ∙ then_from (if_none_left w.transit.lowered) (way_left position via n 0 w) refl)
