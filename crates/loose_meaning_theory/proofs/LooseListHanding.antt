-- A list hands over along steps exactly where the kind of these legs says so.
use Rattle.std.proofs.Common.{◌≡◌, ℕ, true, false, List, [], ◌∷◌, length, map, All, Option, Some, None, refl, sym, ◌∙◌, ap, subst}
use Rattle.srv6_rules.specs.Packet.{Content, V6}
use Rattle.net_model.specs.Network.{Network}
use Rattle.walk_rules.specs.Walk.{Stage, choice_at}
use Rattle.intent_reader.specs.declared.intent.Intent.{Intent}
use Rattle.intent_traces.specs.declared.trace_steps.TraceStep.{TraceStep}
use Rattle.intent_traces.specs.Traces.{left_by}
use Rattle.intent_traces.specs.TracesTerms.{is_done}
use Rattle.intent_traces.proofs.Splits.{follows_iff}
use Rattle.loose_walks.specs.WalkStops.{ends_in}
use Rattle.leg_table.specs.LegMeaning.{HandsInner}
use Rattle.leg_table.specs.OneLegLaws.{LegKind}
use Rattle.leg_table.specs.Realizes.{encapsulated_for, headend_place}
use Rattle.leg_table.specs.PositionSids.{is_binding, prefix_at}
use Rattle.leg_table.specs.WalkTrace.{Handed, through_hand}
use Rattle.loose_meaning_theory.specs.LooseKind.{hand_of, loose_kind}
use Rattle.loose_spec.specs.LooseExecutions.{Execution, executions_of, trace_event}
use Rattle.loose_spec.specs.LooseRealizes.{LooseHandsOver, stages_for}
use Rattle.loose_meaning_theory.proofs.LooseListShown.{HandsAs, as_shown, hand_shown, kept_left, left_kept, left_shown, marks_from, shown_hand}
use Rattle.loose_meaning_theory.proofs.LooseListExecuted.{AreAs, at_nodes, executions_are, flat, named, prefixes_executed, unflat}

done_none : (o : Option (List TraceStep)) → is_done o ≡ true → o ≡ Some []
done_none None h = absurd (cc)
done_none (Some []) h = refl
done_none (Some (t ∷ ts)) h = absurd (cc)

module _ (net : Network) (intent : Intent) (steps : List TraceStep) where
  abbrev pub k : LegKind
  k = loose_kind net intent steps

  module _ (segments : List ℕ) (inner : Content) (hop : ℕ) (choices : List ℕ) where
    abbrev stages : ℕ → List Stage
    stages fuel = stages_for net intent segments inner hop choices fuel

    -- what stages execute, by the trace of what they hand over
    are : (fuel : ℕ) (h : Handed) → hand_of net (stages fuel) ≡ Some h
        → AreAs net (executions_of net (length steps) steps (through_hand (stages fuel))) (marks_from net (length steps) steps h.trace)
    are fuel h e =
        executions_are net (stages fuel) (length steps) steps h
        (at_nodes net fuel (Some (headend_place intent)) (V6 (encapsulated_for intent segments inner hop)) (choice_at choices) 0) e

    -- the SIDs are the same
    pub to_kind : (executions : List Execution) → (o : LooseHandsOver net intent steps segments inner hop executions choices)
        → (h : HandsInner k segments inner hop (flat executions) choices) × (h.handed.sids ≡ o.handed.sids)
    to_kind executions o =
        let got : HandsAs net (stages o.fuel) o.handed = shown_hand net (stages o.fuel) o.handed o.first o.unbound in
        let left : left_shown net steps got.0.trace ≡ Some []
        = ap (λ (h : Handed). left_by (ends_in net) steps (map trace_event h.trace)) got.2
        ∙ done_none (left_by (ends_in net) steps (map trace_event o.handed.trace))
        ((follows_iff (ends_in net) steps (map trace_event o.handed.trace)).0 o.keeps) in
        let same : got.0.sids ≡ o.handed.sids = ap (λ (h : Handed). h.sids) got.2 in (
          record {
            handed = got.0;
            over = (o.fuel, got.1);
            steps = left_kept net got.0.trace (length steps) steps left ∙ ap Some (sym (are o.fuel got.0 got.1).1 ∙ ap flat o.executed);
            content = ap (λ (h : Handed). h.content) got.2 ∙ o.content;
            allowed = subst (λ (ns : List ℕ). All (λ n. is_binding net n ≡ false) ns) (sym same) o.unbound;
          },
          same,
        )

    pub of_kind : (marks : List ℕ) → (h : HandsInner k segments inner hop marks choices)
        → (o : LooseHandsOver net intent steps segments inner hop (unflat net marks) choices) × (o.handed.sids ≡ h.handed.sids)
    of_kind marks h =
        let kept = kept_left net h.handed.trace (length steps) steps marks h.steps in (
          record {
            fuel = h.over.0;
            handed = as_shown net h.handed;
            first = hand_shown net (stages h.over.0) h.handed h.over.1;
            keeps = (follows_iff (ends_in net) steps (map trace_event (as_shown net h.handed).trace)).1 (ap is_done kept.0);
            content = h.content;
            unbound = h.allowed;
            executed = (are h.over.0 h.handed h.over.1).0 ∙ ap (unflat net) kept.1;
          },
          refl,
        )

    -- the marks name the SIDs that were executed
    pub inner_named : (marks : List ℕ) → (h : HandsInner k segments inner hop marks choices)
        → prefixes_executed net (unflat net marks) ≡ map (prefix_at net) h.handed.sids
    inner_named marks h = named net (stages h.over.0) h.handed (length steps) steps marks h.over.1 h.steps
