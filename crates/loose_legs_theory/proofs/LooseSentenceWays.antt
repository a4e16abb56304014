-- What is found on the way to a next SID by look-ups alone, taken apart: legs and finishes.
use Rattle.std.proofs.Common.{◌≡◌, ℕ, ◌-◌, ◌/◌, ◌%◌, ◌≤◌, Bool, true, ◌==◌, nat_le, if◌then◌else◌, List, length, Option, Some, None, slice_get, refl, ◌∙◌, ap, subst, eqb-true}
use Rattle.std.specs.Option.{option_map, option_and_then}
use Rattle.std.proofs.lemmas.Bool.{and_parts, eq-eqb, leb-true}
use Rattle.srv6_rules.specs.declared.family.Family.TheVariants as families
use Rattle.srv6_rules.specs.declared.sid.SidEntry.{SidEntry}
use Rattle.net_model.specs.Network.{Network}
use Rattle.net_model.specs.NetworkKeeps.{Keeps}
use Rattle.walk_rules.specs.declared.place.Place.{Place}
use Rattle.walk_rules.specs.Relation.{IsPlace}
use Rattle.walk_rules.proofs.PublicLaws.{sid_how}
use Rattle.intent_reader.specs.declared.intent.Intent.{Intent}
use Rattle.list_pack.specs.declared.types.Leg.{Leg}
use Rattle.intent_traces.specs.declared.trace_steps.TraceStep.{TraceStep}
use Rattle.intent_traces.proofs.TraceParts.{if_some}
use Rattle.choice_graph.specs.declared.vertices.Found.{Found}
use Rattle.choice_graph.proofs.GraphOptions.{then_some, some_same}
use Rattle.loose_walks.specs.WayGraphs.{found_in}
use Rattle.leg_table.specs.StrictLegs.{if_none_left, leg_with, place_behind, place_from}
use Rattle.leg_table.specs.PositionSids.{is_last, is_middle, sid_address}
use Rattle.leg_table.proofs.StrictOptions.{map_some}
use Rattle.leg_table.proofs.NextTransits.{if_none_parts}
use Rattle.loose_spec.specs.LooseLegs.{finish_of, finish_found, leg_of, leg_found, left_after, left_found, way_found}
use Rattle.loose_spec.specs.LooseSids.{is_origin, is_via, origin_of}
use Rattle.loose_spec.specs.LooseSteps.{steps_left}
use Rattle.loose_legs_theory.specs.LooseStepsTerms.{AreSteps}

module _ (net : Network) (keeps : Keeps net) (intent : Intent) (steps : List TraceStep) (are : AreSteps net intent steps) where
  -- ---- from where a packet starts

  pub record StartsAt (position : ℕ) (via : Option ℕ) (place : Place) : Type 0 where
    pub within : position ≤ length steps
    pub from : place_from net intent via ≡ Some place
    pub is_place : IsPlace net place
    pub family : place.family ≡ families.V6

  via_place : (via : Option ℕ) (place : Place) → place_from net intent via ≡ Some place → IsPlace net place × (place.family ≡ families.V6)
  via_place None place from =
      subst (λ (at : Place). IsPlace net at × (at.family ≡ families.V6)) (some_same _ place from) ((are.headend, tt), refl)
  via_place (Some v) place from = by_sid (slice_get net.sids v) refl from
    where
      by_sid : (o : Option SidEntry) → slice_get net.sids v ≡ o → option_map (place_behind v) o ≡ Some place
          → IsPlace net place × (place.family ≡ families.V6)
      by_sid None e h = absurd (cc)
      by_sid (Some s) e h =
          subst (λ (at : Place). IsPlace net at × (at.family ≡ families.V6)) (some_same _ place h)
          (((keeps.sid v s e).node, sid_how net v s keeps e), refl)

  pub start_at_law : (position : ℕ) (via : Option ℕ) (place : Place) → is_origin net intent steps position via ≡ true
      → place_from net intent via ≡ Some place → StartsAt position via place
  start_at_law position via place start from =
      let parts = and_parts (nat_le position (length steps)) (is_via net intent steps position via) start in
      let is = via_place via place from in
      record { within = leb-true position (length steps) parts.0; from = from; is_place = is.0; family = is.1 }

  -- ---- what is found, taken apart

  pub record Way (position : ℕ) (via : Option ℕ) (next : ℕ) : Type 0 where
    pub start : is_origin net intent steps position via ≡ true
    pub place : Place
    pub from : place_from net intent via ≡ Some place
    pub found : Found
    pub there : found_in net (sid_address net next) steps (length steps - position) place ≡ Some found
    pub sid : found.answer / 64 ≡ next
    pub left : ℕ
    pub behind : left_after net next (steps_left steps (found.answer % 64)) ≡ Some left

  pub way_parts : (position : ℕ) (via : Option ℕ) (next : ℕ) (f : Found) (left : ℕ)
      → way_found net intent steps position via (sid_address net next) ≡ Some f → left_found net steps next f ≡ Some left
      → (w : Way position via next) × (w.found ≡ f) × (w.left ≡ left)
  way_parts position via next f left way found =
      let a = then_some (found_in net (sid_address net next) steps (length steps - position)) (origin_of net intent steps position via) f
      way in
      let b = if_some (is_origin net intent steps position via) (place_from net intent via) a.0 a.1 in
      let c = if_some (f.answer / 64 == next) (left_after net next (steps_left steps (f.answer % 64))) left found in (
        record {
          start = b.0;
          place = a.0;
          from = b.1;
          found = f;
          there = a.2;
          sid = eqb-true (f.answer / 64) next c.0;
          left = left;
          behind = c.1;
        },
        refl,
        refl,
      )

  way_is : (position : ℕ) (via : Option ℕ) (next : ℕ) (w : Way position via next)
      → way_found net intent steps position via (sid_address net next) ≡ Some w.found
  way_is position via next w =
      ap (option_and_then (found_in net (sid_address net next) steps (length steps - position)))
      (ap (λ (b : Bool). if b then place_from net intent via else None) w.start ∙ w.from)
      ∙ w.there

  left_is_found : (position : ℕ) (via : Option ℕ) (next : ℕ) (w : Way position via next) → left_found net steps next w.found ≡ Some w.left
  left_is_found position via next w =
      ap (λ (b : Bool). if b then left_after net next (steps_left steps (w.found.answer % 64)) else None)
      (eq-eqb (w.found.answer / 64) next w.sid)
      ∙ w.behind

  pub leg_way : (position : ℕ) (via : Option ℕ) (next : ℕ) (leg : Leg) → leg_of net intent steps position via next ≡ Some leg
      → (is_middle net next ≡ true) × (w : Way position via next) × (leg_with (length steps) w.found.most w.left ≡ leg)
  unfolding way_parts
  leg_way position via next leg h =
      let a = if_some (is_middle net next) _ leg h in
      let b = then_some (leg_found net steps next) (way_found net intent steps position via (sid_address net next)) leg a.1 in
      let c = map_some (leg_with (length steps) b.0.most) (left_found net steps next b.0) leg b.2 in
      let w = way_parts position via next b.0 c.0 b.1 c.1 in
      (a.0, w.0, c.2)

  pub leg_from : (position : ℕ) (via : Option ℕ) (next : ℕ) (w : Way position via next) → is_middle net next ≡ true
      → leg_of net intent steps position via next ≡ Some (leg_with (length steps) w.found.most w.left)
  leg_from position via next w middle =
      ap (λ (b : Bool). if b then option_and_then (leg_found net steps next)
      (way_found net intent steps position via (sid_address net next))
      else None) middle
      ∙ ap (option_and_then (leg_found net steps next)) (way_is position via next w)
      ∙ ap (option_map (leg_with (length steps) w.found.most)) (left_is_found position via next w)

  pub finish_way : (position : ℕ) (via : Option ℕ) (next lowered : ℕ) → finish_of net intent steps position via next ≡ Some lowered
      → (is_last net intent.inner next ≡ true) × (w : Way position via next) × (w.found.most ≡ lowered) × (w.left ≡ 0)
  unfolding way_parts
  finish_way position via next lowered h =
      let a = if_some (is_last net intent.inner next) _ lowered h in
      let b = then_some (finish_found net steps next) (way_found net intent steps position via (sid_address net next)) lowered a.1 in
      let c = then_some (if_none_left b.0.most) (left_found net steps next b.0) lowered b.2 in
      let d = if_none_parts b.0.most c.0 lowered c.2 in
      let w = way_parts position via next b.0 c.0 b.1 c.1 in
      (a.0, w.0, d.1, d.0)

  pub finish_from : (position : ℕ) (via : Option ℕ) (next : ℕ) (w : Way position via next) → is_last net intent.inner next ≡ true
      → w.left ≡ 0 → finish_of net intent steps position via next ≡ Some w.found.most
  finish_from position via next w last none =
      ap (λ (b : Bool). if b then option_and_then (finish_found net steps next)
      (way_found net intent steps position via (sid_address net next))
      else None) last
      ∙ ap (option_and_then (finish_found net steps next)) (way_is position via next w)
      ∙ ap (option_and_then (if_none_left w.found.most)) (left_is_found position via next w ∙ ap Some none)
