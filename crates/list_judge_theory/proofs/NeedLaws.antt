-- A legal list realizes an intent, with a need, exactly where there is a course along its prefixes with as many hops.
use Rattle.std.proofs.Common.{◌≡◌, ◌↔◌, ℕ, ◌≤◌, Bool, true, false, List, [], length, None, refl}
use Rattle.srv6_rules.specs.Packet.{Content}
use Rattle.net_model.specs.Network.{Network}
use Rattle.net_model.specs.NetworkRulesTerms.{IsNetwork}
use Rattle.net_model.proofs.PublicLaws.{keeps_from_network}
use Rattle.net_flatness.specs.Flat.{IsFlat}
use Rattle.intent_reader.specs.IntentRules.{has_reach}
use Rattle.intent_reader.specs.IntentRulesTerms.{IsIntent}
use Rattle.intent_reader.specs.declared.intent.Intent.{Intent}
use Rattle.list_pack.specs.declared.types.Container.{Container}
use Rattle.list_pack.specs.SidLists.{IsLegalList, prefixes_in}
use Rattle.leg_table.specs.LegMeaning.{HandsInner, IsRealizing}
use Rattle.leg_table.specs.OneLegLaws.{KindLaws, LegKind}
use Rattle.leg_table.specs.StepMatching.{matches}
use Rattle.leg_table.specs.StrictLegsValue.{AnyWay}
use Rattle.leg_table.proofs.FlatNets.{flat_facts}
use Rattle.leg_table.proofs.PublicLaws.{strict_laws}
use Rattle.leg_table.proofs.StrictOptions.{kept_from, kept_parts}
use Rattle.leg_table.proofs.StrictRealizing.{tunnel}
use Rattle.binding_spec.specs.BindingRealizes.{OwnHandsOver, OwnListRealizes}
use Rattle.binding_legs.proofs.PublicLaws.{binding_laws}
use Rattle.binding_legs_theory.specs.BindingKind.{binding_kind}
use Rattle.binding_legs_theory.proofs.BindingMeaningDown.{none_barred}
use Rattle.binding_legs_theory.proofs.Means.{binding_kind_laws}
use Rattle.loose_legs.specs.IntentSteps.{trace_steps}
use Rattle.loose_legs.proofs.StepLaws.{are_steps}
use Rattle.loose_meaning_theory.specs.LongestWays.{Longest}
use Rattle.loose_meaning_theory.specs.LooseKind.{loose_kind}
use Rattle.loose_meaning_theory.proofs.LooseListMeaning.{loose_realizes}
use Rattle.loose_meaning_theory.proofs.OneLegLaws.{loose_kind_laws, loose_leg_laws}
use Rattle.intent_compiler.specs.IntentLegs.{ListRealizesFor, RealizesIf, intent_legs_value, legs_if}
use Rattle.intent_compiler.proofs.IntentAnswering.{few_sids}
use Rattle.list_judge_theory.specs.ListCourses.{Course, tail_of}
use Rattle.list_judge_theory.proofs.CourseRealizing.{early_down, early_up, whole_down, whole_up}
use Rattle.list_judge_theory.proofs.EarlyPaths.{EarlyLaws}
use Rattle.list_judge_theory.proofs.OwnEarly.{own_early}

module _ (net : Network) (intent : Intent) (network : IsNetwork net) (flat : IsFlat net) (is_intent : IsIntent net intent)
    (list : List Container) (legal : IsLegalList net list) where
  -- ---- through binding SIDs

  abbrev own : LegKind
  own = binding_kind net intent

  abbrev to_kind : {segments : List ℕ} {inner : Content} {hop : ℕ} {choices : List ℕ} → OwnHandsOver net intent segments inner hop choices
      → HandsInner own segments inner hop [] choices
  to_kind o =
      record {
        handed = o.handed;
        over = (o.fuel, o.own);
        steps = kept_from (matches intent.steps o.handed.trace) o.steps;
        content = o.content;
        allowed = none_barred net intent o.handed.sids;
      }

  abbrev of_kind : {segments : List ℕ} {inner : Content} {hop : ℕ} {marks choices : List ℕ} → HandsInner own segments inner hop marks choices
      → OwnHandsOver net intent segments inner hop choices
  of_kind {marks = marks} o =
      record {
        fuel = o.over.0;
        handed = o.handed;
        own = o.over.1;
        steps = (kept_parts (matches intent.steps o.handed.trace) marks o.steps).0;
        content = o.content;
      }

  own_of : (need : ℕ) → IsRealizing own list need → OwnListRealizes net intent list need
  own_of need r =
      record {
        reaches = λ inner ok hop above choices some. of_kind (r.reaches.1 inner ok hop above choices some);
        least = λ n reaches. r.least n ([], λ inner ok hop above choices some. to_kind (reaches inner ok hop above choices some));
      }

  to_own : (need : ℕ) → OwnListRealizes net intent list need → IsRealizing own list need
  to_own need r =
      record {
        reaches = ([], λ inner ok hop above choices some. to_kind (r.reaches inner ok hop above choices some));
        least = λ n reaches. r.least n (λ inner ok hop above choices some. of_kind (reaches.1 inner ok hop above choices some));
      }

  own_laws : KindLaws own AnyWay
  own_laws =
      let keeps = keeps_from_network net network in
      binding_kind_laws net intent network flat is_intent
      (binding_laws net keeps intent is_intent (strict_laws net intent keeps (flat_facts net network flat) is_intent))

  early : (inner : Content) → EarlyLaws own AnyWay (tunnel own AnyWay own_laws list legal inner)
  early inner =
      own_early net (keeps_from_network net network) (flat_facts net network flat) intent is_intent
      (tunnel own AnyWay own_laws list legal inner) refl

  -- ---- along steps of which one is loose

  abbrev loose : LegKind
  loose = loose_kind net intent (trace_steps intent)

  loose_laws_of : length net.sids ≤ 128 → KindLaws loose (Longest net intent)
  loose_laws_of few =
      let are = are_steps net intent is_intent in
      loose_kind_laws net intent (trace_steps intent) network flat are few
      (loose_leg_laws net intent (trace_steps intent) network flat are)

  -- ---- by whether a step is loose

  abbrev CourseIf : Bool → ℕ → Type 0
  CourseIf b need = Course (legs_if b net intent) net (tail_of b list) 0 None (prefixes_in list) need

  need_if : (b : Bool) → has_reach intent.steps ≡ b → (need : ℕ) → RealizesIf b net intent list need ↔ CourseIf b need
  need_if false none need = (
    λ real. early_down own AnyWay own_laws list legal early need (to_own need real),
    λ course. own_of need (early_up own AnyWay own_laws list legal early need course),
  )
  need_if true some need =
      let few = few_sids net intent is_intent some in
      let laws = loose_laws_of few in
      let both = loose_realizes net intent (trace_steps intent) network flat (are_steps net intent is_intent) few list need legal in (
        λ real.
            let parts = both.0 real in
            whole_down loose (Longest net intent) laws list legal need parts.0 parts.1,
        λ course. both.1 (whole_up loose (Longest net intent) laws list legal need course),
      )

  pub need_law : (need : ℕ) → ListRealizesFor net intent list need
      ↔ Course (intent_legs_value net intent) net (tail_of (has_reach intent.steps) list) 0 None (prefixes_in list) need
  need_law = need_if (has_reach intent.steps) refl
