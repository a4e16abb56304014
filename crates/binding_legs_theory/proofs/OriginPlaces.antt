-- What is known of the place from which a packet goes on, behind a binding SID too.
use Rattle.std.proofs.Common.{◌≡◌, ℕ, ◌+◌, ◌-◌, ◌≤◌, true, ◌==◌, ◌&&◌, nat_le, [], length, take, drop, slice_get, Option, Some, None, refl, sym, ap, ◌∙◌, subst, arith, eqb-true}
use Rattle.std.specs.Prelude.{is_some}
use Rattle.std.specs.Option.{option_and_then}
use Rattle.std.proofs.lemmas.Bool.{and_parts, leb-true}
use Rattle.std.proofs.lemmas.List.{length-drop, drop-drop}
use Rattle.std.proofs.lemmas.Option.{same_Some}
use Rattle.std.proofs.Math.Seq.{take-add}
use Rattle.srv6_rules.specs.declared.family.Family.TheVariants as families
use Rattle.srv6_rules.specs.declared.sid.SidEntry.{SidEntry}
use Rattle.srv6_rules.specs.Behaviours.{behaviour_policy, behaviour_reduces, goes_on}
use Rattle.srv6_rules.specs.Policies.{outer_by}
use Rattle.net_model.specs.declared.parts.NamedPolicy.{NamedPolicy}
use Rattle.net_model.specs.Network.{Network}
use Rattle.net_model.specs.NetworkKeeps.{Keeps}
use Rattle.walk_rules.specs.declared.place.Place.{Place}
use Rattle.walk_rules.specs.Relation.{IsPlace}
use Rattle.walk_rules.proofs.PublicLaws.{sid_how}
use Rattle.intent_reader.specs.IntentRules.{stand_after}
use Rattle.intent_reader.specs.IntentRulesTerms.{IsIntent}
use Rattle.intent_reader.specs.declared.intent.Step.{Step}
use Rattle.intent_reader.specs.declared.intent.Intent.{Intent}
use Rattle.leg_table.specs.StrictLegs.{place_behind}
use Rattle.leg_table.specs.TransitTables.{IsOrigin}
use Rattle.leg_table.specs.PositionSids.{is_sid_at, node_at}
use Rattle.leg_table.proofs.PublicLaws.{are_sids}
use Rattle.leg_table.proofs.TransitFacts.{OriginFacts, sid_at, intent_stands, stand_after_append, stand_after_split}
use Rattle.binding_spec.specs.Machines.{End}
use Rattle.binding_spec.specs.TunnelPackets.{tunnel_of}
use Rattle.tunnel_walks_theory.proofs.PublicLaws.{map_parts, if_parts}
use Rattle.tunnel_network_theory.specs.HeaderOrigins.{OriginsBehind}
use Rattle.binding_spec.specs.OwnHands.{most_stages}
use Rattle.binding_spec.specs.NetworkWorld.{world}
use Rattle.binding_legs_theory.proofs.PublicLaws.{policy_head, tunnel_origins}
use Rattle.list_pack.specs.LegsValueTerms.{IsVia}
use Rattle.binding_spec.specs.declared.origin.Origin.{Origin}
use Rattle.binding_spec.specs.Origins.{binding_origin, sid_leads_on, origin_after, origin_behind, origin_onward, origin_pushed}
use Rattle.binding_legs_theory.specs.OriginFacts.{OriginsFrom}
use Rattle.binding_spec.specs.BindingLegsValue.{binding_legs_value}

-- an origin as leg_table's transits ask for it
pub facts_of : (net : Network) (intent : Intent) (position : ℕ) (place : Place) → IsOrigin net intent position place
    → OriginFacts net intent position place
facts_of net intent position place s =
    record { within = s.within; stands = s.stands; rest = s.rest; how = s.is_place.1; family = s.family }

module _ (net : Network) (keeps : Keeps net) (intent : Intent) (is_intent : IsIntent net intent) where
  origin_of : (position : ℕ) (place : Place) → IsPlace net place → position ≤ length intent.steps
      → node_at net intent position ≡ Some place.node → place.family ≡ families.V6 → IsOrigin net intent position place
  origin_of position place is within stands family =
      record {
        is_place = is;
        within = within;
        stands = stands;
        family = family;
        rest = ap is_some (sym (stand_after_split net intent.headend place.node intent.steps position stands))
            ∙ (intent_stands net intent is_intent).0;
      }

  -- right behind a SID of a position
  pub sid_origin : (position v : ℕ) (s : SidEntry) → position ≤ length intent.steps → is_sid_at net intent position v ≡ true
      → slice_get net.sids v ≡ Some s → IsOrigin net intent position (place_behind v s)
  sid_origin position v s within at there =
      let found = sid_at net intent position v at in
      let same : found.0 ≡ s = same_Some found.0 s (sym found.1 ∙ there) in
      origin_of position (place_behind v s) ((keeps.sid v s there).node, sid_how net v s keeps there) within
      (found.2 ∙ ap (λ (x : SidEntry). Some x.node) same) refl

  -- behind a header that walked alone
  ended_origin : (position : ℕ) (place : Place) (e : End Step ℕ Place) → IsOrigin net intent position place
      → OriginsBehind net (drop position intent.steps) place.node e
      → OriginsFrom net intent position (origin_after (length intent.steps) e)
  ended_origin position place e s b =
      let len = length-drop position intent.steps in
      let within = s.within in
      let few = b.few in
      let left : e.left ≡ drop (position + b.done) intent.steps = b.left ∙ drop-drop b.done position intent.steps in
      let rest = length-drop (position + b.done) intent.steps in
      let size : length e.left ≡ length intent.steps - (position + b.done) = ap length left ∙ rest in
      let done : length intent.steps - length e.left ≡ position + b.done = omega (arith, size, len, within, few) in
      let stands : node_at net intent (position + b.done) ≡ Some e.result.node =
      ap (stand_after net intent.headend) (take-add position b.done intent.steps)
      ∙ stand_after_append net intent.headend (take position intent.steps) (take b.done (drop position intent.steps))
      ∙ ap (option_and_then (λ k. stand_after net k (take b.done (drop position intent.steps)))) s.stands ∙ b.lands in
      let is : IsOrigin net intent (position + b.done) e.result =
      origin_of (position + b.done) e.result b.place (omega (arith, len, within, few)) stands b.family in
      record {
        from = omega (arith, done);
        is_origin = subst (λ (n : ℕ). IsOrigin net intent n e.result) (sym done) is;
      }

  pushed_origin : (position v : ℕ) (s : SidEntry) (origin : Origin) → IsOrigin net intent position (place_behind v s) → (o : Option NamedPolicy)
      → origin_pushed net intent position v s o ≡ Some origin → OriginsFrom net intent position origin
  pushed_origin position v s origin is None h = cc
  pushed_origin position v s origin is (Some named) h =
      let new = outer_by named.policy (behaviour_reduces s.behaviour) families.V6 [] in
      let a = map_parts (origin_after (length intent.steps))
      (tunnel_of (world net most_stages) (drop position intent.steps) (place_behind v s) new) origin h in
      let b = tunnel_origins net keeps most_stages (drop position intent.steps) (place_behind v s) new a.0
      (policy_head named.policy (behaviour_reduces s.behaviour)) is.is_place is.rest a.1 in
      subst (OriginsFrom net intent position) a.2 (ended_origin position (place_behind v s) a.0 is b)

  onward_origin : (position v : ℕ) (s : SidEntry) (origin : Origin) → IsOrigin net intent position (place_behind v s) → (o : Option ℕ)
      → origin_onward net intent position v s o ≡ Some origin → OriginsFrom net intent position origin
  onward_origin position v s origin is None h =
      subst (OriginsFrom net intent position) (same_Some _ _ h) (record { from = omega arith; is_origin = is })
  onward_origin position v s origin is (Some number) h = pushed_origin position v s origin is (slice_get net.policies number) h

  pub behind_origin : (position v : ℕ) (origin : Origin) → position ≤ length intent.steps → is_sid_at net intent position v ≡ true
      → origin_behind net intent position v (slice_get net.sids v) ≡ Some origin → OriginsFrom net intent position origin
  behind_origin position v origin within at h = by_sid (slice_get net.sids v) refl h
    where
      by_sid : (o : Option SidEntry) → slice_get net.sids v ≡ o → origin_behind net intent position v o ≡ Some origin
          → OriginsFrom net intent position origin
      by_sid None there h = cc
      by_sid (Some s) there h =
          let a = if_parts (goes_on s) (origin_onward net intent position v s (behaviour_policy s.behaviour)) origin h in
          onward_origin position v s origin (sid_origin position v s within at there) (behaviour_policy s.behaviour) a.1

  behind_leads : (position v : ℕ) (origin : Origin) (o : Option SidEntry) → origin_behind net intent position v o ≡ Some origin
      → sid_leads_on o ≡ true
  behind_leads position v origin None h = cc
  behind_leads position v origin (Some s) h =
      (if_parts (goes_on s) (origin_onward net intent position v s (behaviour_policy s.behaviour)) origin h).0

  -- an origin is at a position, behind none or a SID of it that leads on
  pub record IsStarted (position : ℕ) (via : Option ℕ) (origin : Origin) : Type 0 where
    pub within : position ≤ length intent.steps
    pub is_via : IsVia (binding_legs_value net intent) position via
    pub origins : OriginsFrom net intent position origin

  pub origin_is : (position : ℕ) (via : Option ℕ) (origin : Origin) → binding_origin net intent position via ≡ Some origin
      → IsStarted position via origin
  origin_is position None origin h =
      let a = if_parts (position == 0) _ origin h in
      let zero : position ≡ 0 = eqb-true position 0 a.0 in
      let head : IsOrigin net intent 0 _ = origin_of 0 _ ((intent_stands net intent is_intent).3, tt) (omega arith) refl refl in
      record {
        within = omega (arith, zero);
        is_via = zero;
        origins = subst (OriginsFrom net intent position) (same_Some _ _ a.1) (record { from = omega (arith, zero); is_origin = head });
      }
  origin_is position (Some v) origin h =
      let a = if_parts (nat_le position (length intent.steps) && is_sid_at net intent position v)
      (origin_behind net intent position v (slice_get net.sids v)) origin h in
      let tests = and_parts (nat_le position (length intent.steps)) (is_sid_at net intent position v) a.0 in
      let within = leb-true position (length intent.steps) tests.0 in
      record {
        within = within;
        is_via = (((are_sids net keeps intent position).each v).1 tests.1, behind_leads position v origin (slice_get net.sids v) a.1);
        origins = behind_origin position v origin within tests.1 a.1;
      }
