-- What a SID at the end of a transit does names the SID; and the tests of an origin.
use Rattle.std.proofs.Common.{◌≡◌, ℕ, ◌≤◌, Bool, true, false, ◌==◌, ◌&&◌, nat_le, if◌then◌else◌, List, [], ◌∷◌, length, Option, Some, None, slice_get, refl, sym, ap, ◌∙◌, arith, eqb-true}
use Rattle.std.specs.Option.{option_map}
use Rattle.std.proofs.lemmas.Bool.{and_parts, leb-true}
use Rattle.srv6_rules.specs.declared.sid.Behaviour.{Behaviour}
use Rattle.srv6_rules.specs.declared.sid.SidEntry.{SidEntry}
use Rattle.srv6_rules.specs.Behaviours.{behaviour_policy, goes_on}
use Rattle.srv6_rules.specs.Packet.{Packet, Content}
use Rattle.srv6_rules.specs.Endpoint.{Endpoint, Onward, Exposed, Delivered, Refused, at_sid}
use Rattle.net_model.specs.declared.parts.NamedPolicy.{NamedPolicy}
use Rattle.net_model.specs.Network.{Network}
use Rattle.net_model.specs.NetworkKeeps.{Keeps}
use Rattle.walk_rules.specs.declared.place.Place.{Place}
use Rattle.walk_rules.specs.Treatment.{allow_of}
use Rattle.intent_reader.specs.declared.intent.Step.{Step}
use Rattle.intent_reader.specs.declared.intent.Intent.{Intent}
use Rattle.list_pack.specs.LegsValueTerms.{IsVia}
use Rattle.leg_table.specs.Realizes.{headend_place}
use Rattle.leg_table.specs.PositionSids.{is_sid_at}
use Rattle.leg_table.specs.WalkTrace.{executed}
use Rattle.leg_table.proofs.StrictPositions.{are_sids}
use Rattle.binding_spec.specs.Machines.{End, left_by, end_with}
use Rattle.tunnel_walks_theory.specs.TunnelPacketsTerms.{Met, met_by}
use Rattle.tunnel_walks_theory.proofs.PublicLaws.{map_parts}
use Rattle.binding_spec.specs.NetworkWorld.{look_bound, look_onward, look_at_sid, look_in, step_events}
use Rattle.tunnel_network_theory.specs.NetworkTransits.{ended_at}
use Rattle.binding_spec.specs.declared.origin.Origin.{Origin}
use Rattle.binding_spec.specs.Origins.{leads_on, sid_leads_on, origin_behind, binding_origin}
use Rattle.binding_spec.specs.BindingLegsValue.{binding_legs_value}
use Rattle.binding_legs_theory.specs.BindingSentences.{may_go_on}
use Rattle.binding_legs_theory.proofs.BindingMeaningMachine.{network_world}

module _ (net : Network) (place : Place) (n : ℕ) (left : List Step) (e : End Step ℕ (Met Place Packet Content)) where
  abbrev Looked : Type 0
  Looked = (e.sids ≡ n ∷ []) × (left_by step_events left (executed net n) ≡ Some e.left)

  noted : (m : Met Place Packet Content) → option_map (end_with (n ∷ []) m) (left_by step_events left (executed net n)) ≡ Some e → Looked
  noted m h =
      let a = map_parts (end_with (n ∷ []) m) (left_by step_events left (executed net n)) e h in (
        ap (λ (x : End Step ℕ (Met Place Packet Content)). x.sids) (sym a.2),
        a.1 ∙ ap (λ (x : End Step ℕ (Met Place Packet Content)). Some x.left) a.2,
      )

  bound_looked : (b : Behaviour) (q : Packet) (o : Option NamedPolicy)
      → ended_at left (met_by (network_world net) (look_bound net place n b q o)) ≡ Some e → Looked
  bound_looked b q None h = cc
  bound_looked b q (Some named) h = noted _ h

  onward_looked : (b : Behaviour) (q : Packet) (o : Option ℕ)
      → ended_at left (met_by (network_world net) (look_onward net place n b q o)) ≡ Some e → Looked
  onward_looked b q None h = noted _ h
  onward_looked b q (Some number) h = bound_looked b q (slice_get net.policies number) h

  sid_looked : (b : Behaviour) (o : Endpoint) → ended_at left (met_by (network_world net) (look_at_sid net place n b o)) ≡ Some e → Looked
  sid_looked b (Onward q) h = onward_looked b q (behaviour_policy b) h
  sid_looked b (Exposed family bytes) h = noted _ h
  sid_looked b (Delivered q) h = cc
  sid_looked b (Refused reason at) h = cc

  pub looked : (o : Option SidEntry) (q : Packet) → ended_at left (met_by (network_world net) (look_in net place n o q)) ≡ Some e → Looked
  looked None q h = cc
  looked (Some s) q h = sid_looked s.behaviour (at_sid s (allow_of (slice_get net.nodes place.node)) q) h

-- lists that begin alike
pub head_same : (n m : ℕ) (ns : List ℕ) → n ∷ ns ≡ m ∷ [] → n ≡ m
head_same n m ns e = ap first e
  where
    first : List ℕ → ℕ
    first [] = 0
    first (x ∷ xs) = x

-- ---- the tests of an origin

module _ (net : Network) (keeps : Keeps net) (intent : Intent) where
  pub origin_tests : (position : ℕ) (via : Option ℕ) (st : Origin) → binding_origin net intent position via ≡ Some st
      → may_go_on net intent position via ≡ true
  origin_tests position None st h = by_test (position == 0) h
    where
      by_test : (b : Bool) → (if b then Some (record { place = headend_place intent; done = 0 }) else None) ≡ Some st → b ≡ true
      by_test true h = refl
      by_test false h = cc
  origin_tests position (Some v) st h = by_test (nat_le position (length intent.steps)) (is_sid_at net intent position v)
      (slice_get net.sids v) h
    where
      by_leads : (b : Bool) (o : Option Origin) → (if b then o else None) ≡ Some st → b ≡ true
      by_leads true o h = refl
      by_leads false o h = cc

      by_sid : (o : Option SidEntry) → origin_behind net intent position v o ≡ Some st → sid_leads_on o ≡ true
      by_sid None h = cc
      by_sid (Some s) h = by_leads (goes_on s) _ h

      by_test : (a b : Bool) (o : Option SidEntry) → (if a && b then origin_behind net intent position v o else None) ≡ Some st
          → (a && (b && sid_leads_on o)) ≡ true
      by_test true true o h = by_sid o h
      by_test true false o h = cc
      by_test false b o h = cc

  pub tests_via : (position : ℕ) (via : Option ℕ) → may_go_on net intent position via ≡ true
      → (position ≤ length intent.steps) × IsVia (binding_legs_value net intent) position via
  tests_via position None h = let e : position ≡ 0 = eqb-true position 0 h in (omega arith, e)
  tests_via position (Some v) h =
      let a = and_parts (nat_le position (length intent.steps)) (is_sid_at net intent position v && leads_on net v) h in
      let b = and_parts (is_sid_at net intent position v) (leads_on net v) a.1 in
      (leb-true position (length intent.steps) a.0, (((are_sids net keeps intent position).each v).1 b.0, b.1))
