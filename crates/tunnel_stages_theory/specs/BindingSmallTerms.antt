-- Need not be believed: helps proofs and other laws.
-- Terms beside those of `binding_spec/specs/BindingSmall.antt`.
use Rattle.std.specs.Prelude.{◌≡◌, ℕ, List, Some, IsTrue}
use Rattle.srv6_rules.specs.Packet.{Content, V6}
use Rattle.net_model.specs.Network.{Network}
use Rattle.walk_rules.specs.Walk.{walk_of, choice_at}
use Rattle.walk_rules.specs.declared.limits.TheConstants.{MAX_STAGES}
use Rattle.intent_reader.specs.declared.intent.Intent.{Intent}
use Rattle.leg_table.specs.WalkTrace.{Handed}
use Rattle.leg_table.specs.StepMatching.{matches}
use Rattle.leg_table.specs.Realizes.{headend_place, content_lowered, encapsulated_for}
use Rattle.binding_spec.specs.OwnHandCounting.{handed_at_depth}

-- ---- packets of an intent

-- the walk of its bytes keeps to the intent: the trace up to the own hand_over, at the depth that is counted by outcomes, is the intent's
-- steps, and what is handed over there is the inner packet lowered by one
pub record KeepsTo (net : Network) (intent : Intent) (segments : List ℕ) (inner : Content) (hop : ℕ) (choices : List ℕ) : Type 0 where
  pub handed : Handed
  pub own : handed_at_depth net 0 (walk_of MAX_STAGES net (Some (headend_place intent))
      (V6 (encapsulated_for intent segments inner hop)) (choice_at choices) 0) ≡ Some handed
  pub steps : IsTrue (matches intent.steps handed.trace)
  pub content : handed.content ≡ content_lowered inner
