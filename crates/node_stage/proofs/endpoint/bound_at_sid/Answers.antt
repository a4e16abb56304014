use Rattle.std.proofs.Common.{ap, subst, ◌∙◌}
use Rattle.srv6_rules.specs.Behaviours.{behaviour_reduces}
use Rattle.srv6_rules.specs.Endpoint.{at_sid}
use Rattle.srv6_rules.specs.Packet.{Packet}
use Rattle.std.specs.Prelude.{Some}
use Rattle.node_stage.specs.StageAnswers.{IsBigAfter}
use Rattle.node_stage.proofs.endpoint.bound_at_sid.Goals as goal

pub bound_by-requires-clause-big : goal.bound_by-requires-clause-big
bound_by-requires-clause-big c =
    let s = c.args.entry.now in
    let P : Packet → Type 0 =
    λ p. IsBigAfter (at_sid s c.args.allow.now p) c.args.policy.now (behaviour_reduces s.behaviour) (Some c.in-Some.big) in
    subst P c.bytes.ensures.packet c.in-Some.ensures

pub treated_at_sid-requires-clause-unbound : goal.treated_at_sid-requires-clause-unbound
treated_at_sid-requires-clause-unbound c = λ q on.
    absurd (c.in-None.ensures q (ap (at_sid c.args.entry.now c.args.allow.now) c.bytes.ensures.packet ∙ on))

pub returns-in-None : goal.returns-in-None
returns-in-None c = λ net node number named there binds names is of. c.treated_at_sid.ensures net node there of

pub returns-in-Some : goal.returns-in-Some
returns-in-Some c = λ net node number named there binds names is of. c.bound_by.ensures net node number named there binds names is
