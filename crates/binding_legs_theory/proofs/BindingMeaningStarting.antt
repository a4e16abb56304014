-- A walk that ends, from where a packet goes on behind the SID that it executed last, comes to an origin and goes on from there.
use Rattle.std.proofs.Common.{◌≡◌, ℕ, ◌≤◌, true, nat_le, List, [], drop, length, Option, Some, None, slice_get, refl, sym, ap, ◌∙◌, subst}
use Rattle.std.proofs.lemmas.Bool.{and_from, eq-eqb, le-leb}
use Rattle.std.proofs.lemmas.Option.{same_Some}
use Rattle.srv6_rules.specs.declared.family.Family.TheVariants as families
use Rattle.srv6_rules.specs.declared.sid.SidEntry.{SidEntry}
use Rattle.srv6_rules.specs.Behaviours.{behaviour_policy, behaviour_reduces, goes_on}
use Rattle.srv6_rules.specs.Policies.{outer_by}
use Rattle.srv6_rules.specs.Packet.{Packet}
use Rattle.net_model.specs.declared.parts.NamedPolicy.{NamedPolicy}
use Rattle.net_model.specs.Network.{Network}
use Rattle.net_model.specs.NetworkKeeps.{Keeps}
use Rattle.walk_rules.specs.declared.place.Place.{Place}
use Rattle.intent_reader.specs.IntentRulesTerms.{IsIntent}
use Rattle.intent_reader.specs.declared.intent.Step.{Step}
use Rattle.intent_reader.specs.declared.intent.Intent.{Intent}
use Rattle.list_pack.specs.LegsValueTerms.{IsVia}
use Rattle.leg_table.proofs.StrictPositions.{are_sids}
use Rattle.leg_table.proofs.TransitFacts.{OriginFacts}
use Rattle.leg_table.specs.StrictLegs.{place_behind}
use Rattle.leg_table.specs.Realizes.{headend_place}
use Rattle.leg_table.specs.PositionSids.{is_sid_at}
use Rattle.leg_table.specs.WalkTrace.{TraceEvent}
use Rattle.binding_spec.specs.Machines.{Move, End}
use Rattle.tunnel_walks_theory.specs.TunnelChoices.{EndsWith}
use Rattle.tunnel_walks_theory.specs.TunnelPacketsTerms.{Tunnelled, open_at, tunnel_move}
use Rattle.tunnel_walks_theory.proofs.PublicLaws.{map_from, if_from, behind_parts}
use Rattle.binding_spec.specs.NetworkWorld.{step_events}
use Rattle.binding_spec.specs.declared.origin.Origin.{Origin}
use Rattle.binding_spec.specs.Origins.{sid_leads_on, origin_after, origin_pushed, origin_onward, origin_behind, binding_origin}
use Rattle.binding_spec.specs.BindingLegsValue.{binding_legs_value}
use Rattle.binding_legs_theory.specs.BindingKind.{under_policy, onward_by, onward_at, onward_of}
use Rattle.binding_legs_theory.proofs.BindingMeaningMachine.{network_world}
use Rattle.binding_legs_theory.proofs.BindingMeaningBeginnings.{leads, at_sid}

module _ {R : Type 0} (net : Network) (keeps : Keeps net) (intent : Intent) (is_intent : IsIntent net intent)
    (bottom : Place → Packet → Move ℕ TraceEvent ℕ (Tunnelled Place Packet) R) where
  -- the one walk comes to an origin, and goes on from there
  pub record OriginsOne (position : ℕ) (via : Option ℕ) (p : Packet) (e : End Step ℕ R) : Type 0 where
    pub origin : Origin
    pub origins : binding_origin net intent position via ≡ Some origin
    pub on : EndsWith step_events (tunnel_move (network_world net) bottom) (drop origin.done intent.steps) (open_at origin.place p) e

  pub origins_one : (position : ℕ) (via : Option ℕ) (p : Packet) → position ≤ length intent.steps
      → IsVia (binding_legs_value net intent) position via → (d : Tunnelled Place Packet) → onward_of net intent via p ≡ Some d
      → (e : End Step ℕ R) → EndsWith step_events (tunnel_move (network_world net) bottom) (drop position intent.steps) d e
      → OriginsOne position via p e
  origins_one position None p within at d from e ends =
      let same = same_Some _ _ from in
      record {
        origin = record { place = headend_place intent; done = 0 };
        origins = if_from (eq-eqb position 0 at) refl;
        on = subst (λ (n : ℕ). EndsWith step_events (tunnel_move (network_world net) bottom) (drop n intent.steps)
            (open_at (headend_place intent) p) e) at
            (subst (λ (d : Tunnelled Place Packet). EndsWith step_events (tunnel_move (network_world net) bottom) (drop position intent.steps) d e)
            (sym same) ends);
      }
  origins_one position (Some v) p within at d from e ends =
      let is = ((are_sids net keeps intent position).each v).0 at.0 in
      let a = at_sid net keeps intent is_intent position v within is in
      let goes : goes_on a.sid ≡ true = ap sid_leads_on (sym a.there) ∙ at.1 in
      let tests = and_from (nat_le position (length intent.steps)) (is_sid_at net intent position v)
      (le-leb position (length intent.steps) within) is in
      let origin_is : (st : Origin) → origin_onward net intent position v a.sid (behaviour_policy a.sid.behaviour) ≡ Some st
      → binding_origin net intent position (Some v) ≡ Some st
      = λ st h. if_from tests (ap (origin_behind net intent position v) a.there ∙ if_from goes h) in
      by_policy a.sid a.there a.facts origin_is (behaviour_policy a.sid.behaviour) refl (sym (ap (onward_at net v p) a.there) ∙ from)
    where
      Ends : Tunnelled Place Packet → Type 0
      Ends d = EndsWith step_events (tunnel_move (network_world net) bottom) (drop position intent.steps) d e

      Origins : SidEntry → Type 0
      Origins s =
          (st : Origin) → origin_onward net intent position v s (behaviour_policy s.behaviour) ≡ Some st
          → binding_origin net intent position (Some v) ≡ Some st

      named_one : (s : SidEntry) (there : slice_get net.sids v ≡ Some s) (facts : OriginFacts net intent position (place_behind v s))
          → Origins s
          → (o : Option NamedPolicy)
          → origin_onward net intent position v s (behaviour_policy s.behaviour) ≡ origin_pushed net intent position v s o
          → under_policy v s p o ≡ Some d → OriginsOne position (Some v) p e
      named_one s there facts origin_is None same h = cc
      named_one s there facts origin_is (Some named) same h =
          let new : Packet = outer_by named.policy (behaviour_reduces s.behaviour) families.V6 [] in
          let b = behind_parts (network_world net) bottom (drop position intent.steps) (place_behind v s) new p e
          (subst Ends (sym (same_Some _ _ h)) ends) in
          let l = leads net keeps intent is_intent position v s there facts named b.origin b.alone in
          record {
            origin = origin_after (length intent.steps) b.origin;
            origins = origin_is (origin_after (length intent.steps) b.origin)
                (same ∙ map_from (origin_after (length intent.steps)) b.alone refl);
            on = subst (λ (us : List Step). EndsWith step_events (tunnel_move (network_world net) bottom) us
                (open_at b.origin.result p) e) l.left b.on;
          }

      by_policy : (s : SidEntry) (there : slice_get net.sids v ≡ Some s) (facts : OriginFacts net intent position (place_behind v s))
          → Origins s
          → (o : Option ℕ) → behaviour_policy s.behaviour ≡ o → onward_by net v s p (behaviour_policy s.behaviour) ≡ Some d
          → OriginsOne position (Some v) p e
      by_policy s there facts origin_is None is from =
          let same = same_Some _ _ (sym (ap (onward_by net v s p) is) ∙ from) in
          record {
            origin = record { place = place_behind v s; done = position };
            origins = origin_is (record { place = place_behind v s; done = position }) (ap (origin_onward net intent position v s) is);
            on = subst Ends (sym same) ends;
          }
      by_policy s there facts origin_is (Some number) is from =
          named_one s there facts origin_is (slice_get net.policies number) (ap (origin_onward net intent position v s) is)
          (sym (ap (onward_by net v s p) is) ∙ from)
