use Rattle.std.proofs.Common.{◌≡◌, true, is_some, refl, subst}
use Rattle.intent_reader.specs.declared.intent.Step.TheVariants as intents
use Rattle.leg_table.proofs.StrictLinks.{step_links}
use Rattle.loose_spec.specs.LooseSteps.{node_after}
use Rattle.intent_traces.specs.declared.trace_steps.TraceStep.{TraceStep}
use Rattle.intent_traces.specs.declared.trace_steps.TraceStep.TheVariants.{Links}
use Rattle.loose_legs.proofs.loose_rows.node_behind.Goals as goal

pub first_end-requires : goal.first_end-requires
first_end-requires c =
    let set = c.as_slice.result.now in
    let is : c.args.step.now ≡ Links set = rw c.as_slice.ensures c.in-Links.is in
    step_links c.args.net.now c.args.node (intents.Links set) set
    (subst (λ (t : TraceStep). is_some (node_after c.args.net.now c.args.node t) ≡ true) is c.requires) refl
