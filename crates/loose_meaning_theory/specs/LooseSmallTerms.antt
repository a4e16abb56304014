-- Need not be believed: helps proofs and other laws.
-- Terms beside those of `loose_spec/specs/LooseSmall.antt`.
use Rattle.std.specs.Prelude.{◌≡◌, ℕ, false, List, map, All, Some}
use Rattle.srv6_rules.specs.Packet.{Content, V6}
use Rattle.net_model.specs.Network.{Network}
use Rattle.walk_rules.specs.Walk.{choice_at, walk_of}
use Rattle.walk_rules.specs.declared.limits.TheConstants.{MAX_STAGES}
use Rattle.intent_reader.specs.declared.intent.Intent.{Intent}
use Rattle.intent_traces.specs.declared.trace_steps.TraceStep.{TraceStep}
use Rattle.intent_traces.specs.Traces.{Matches}
use Rattle.loose_walks.specs.WalkStops.{ends_in}
use Rattle.leg_table.specs.Realizes.{content_lowered, encapsulated_for, headend_place}
use Rattle.leg_table.specs.PositionSids.{is_binding}
use Rattle.leg_table.specs.WalkTrace.{Handed, handed_over}
use Rattle.loose_spec.specs.LooseExecutions.{trace_event}

-- its walk keeps to the steps, with all MTUs and at most as many stages as a walk may have: the trace up to the first hand_over matches the
-- steps, and what is handed over there is the inner packet lowered by one
pub record LooseKeepsTo (net : Network) (intent : Intent) (steps : List TraceStep) (segments : List ℕ) (inner : Content) (hop : ℕ)
    (choices : List ℕ)
    : Type 0 where
  pub handed : Handed
  pub first : handed_over net (walk_of MAX_STAGES net (Some (headend_place intent)) (V6 (encapsulated_for intent segments inner hop))
      (choice_at choices) 0) ≡ Some handed
  pub keeps : Matches (ends_in net) steps (map trace_event handed.trace)
  pub content : handed.content ≡ content_lowered inner
  pub unbound : All (λ n. is_binding net n ≡ false) handed.sids
