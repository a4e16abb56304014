use Rattle.std.proofs.Common.{sym, ap, ◌∙◌, ◌+◌, drop, reverse, List}
use Rattle.std.proofs.lemmas.List.{drop-drop}
use Rattle.srv6_rules.specs.Packet.{Packet}
use Rattle.walk_rules.specs.Treatment.{lowered}
use Rattle.intent_reader.specs.declared.intent.Step.{Step}
use Rattle.binding_spec.specs.TunnelPackets.{inside_at}
use Rattle.policy_walks.proofs.HeaderWalkStages.{over_some}
use Rattle.policy_walks.proofs.header_stage.crossed.Goals as goal

pub returns-clause-value : goal.returns-clause-value
returns-clause-value c = λ go.
    let h = c.args.headers in
    let steps = c.args.steps.now in
    let above = reverse h.below.items in
    over_some c.args.net.now go h c.args.links.now c.args.lower (drop c.args.done steps) c.in-Some.place c.requires.links.some
    (sym c.runs_out.ensures ∙ c.if-runs_out.false) (sym c.in-Some.ensures.value)
    ∙ ap (λ (ts : List Step). go ts (inside_at (lowered c.args.lower h.top) above c.in-Some.place)) (drop-drop 1 c.args.done steps)
    ∙ ap (λ (q : Packet). go (drop (c.args.done + 1) steps) (inside_at q above c.in-Some.place)) (sym c.lowered.ensures)
