-- Need not be believed: helps proofs and other laws.
-- Terms beside those of `loose_spec/specs/LooseSteps.antt`.
use Rattle.std.specs.Prelude.{◌-◌, ◌<◌, ◌≤◌, List, length, IsSome}
use Rattle.net_model.specs.Network.{Network}
use Rattle.intent_reader.specs.declared.intent.Intent.{Intent}
use Rattle.intent_traces.specs.declared.trace_steps.TraceStep.{TraceStep}
use Rattle.loose_spec.specs.LooseSteps.{stand_after}

-- at most 48 steps, each from where the one before it ended, the first from a headend that is there
pub record AreSteps (net : Network) (intent : Intent) (steps : List TraceStep) : Type 0 where
  pub headend : intent.headend < length net.nodes
  pub few : length steps ≤ 48
  pub stands : IsSome (stand_after net intent.headend steps)
