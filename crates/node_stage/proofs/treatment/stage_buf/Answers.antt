use Rattle.std.proofs.Common.{◌∙◌, ap, subst}
use Rattle.srv6_rules.specs.Packet.{Content}
use Rattle.walk_rules.specs.Treatment.{step_of}
use Rattle.node_stage.specs.Fronted.{FrontedContent, front_after}
use Rattle.node_stage.specs.StageAnswers.{PutsPolicy}
use Rattle.node_stage.proofs.StageLemmas.{told_step, told_relation, told_tells, told_place}
use Rattle.node_stage.proofs.treatment.stage_buf.Goals as goal

pub returns-in-Ok-clause-tells : goal.returns-in-Ok-clause-tells
returns-in-Ok-clause-tells c = told_tells c.args.net.now c.args.place.now c.args.content.now.content c.args.choice c.in-Ok.field-0 _
    (told_step c.args.net.now c.args.place.now c.args.content.now.content c.take.result.content c.args.choice c.in-Ok.field-0 _
    (ap (λ (v : FrontedContent). v.content) c.take.ensures) c.in-Ok.ensures.0)

pub returns-in-Ok-clause-relation : goal.returns-in-Ok-clause-relation
returns-in-Ok-clause-relation c = told_relation c.args.net.now c.args.place.now c.args.content.now.content c.args.choice c.in-Ok.field-0 _
    c.keeps_rules.ensures.facts c.requires
    (told_step c.args.net.now c.args.place.now c.args.content.now.content c.take.result.content c.args.choice c.in-Ok.field-0 _
    (ap (λ (v : FrontedContent). v.content) c.take.ensures) c.in-Ok.ensures.0)

pub returns-in-Ok-clause-next : goal.returns-in-Ok-clause-next
returns-in-Ok-clause-next c = told_place c.args.net.now c.args.place.now c.args.content.now.content c.args.choice c.in-Ok.field-0 _
    c.keeps_rules.ensures.facts c.requires
    (told_step c.args.net.now c.args.place.now c.args.content.now.content c.take.result.content c.args.choice c.in-Ok.field-0 _
    (ap (λ (v : FrontedContent). v.content) c.take.ensures) c.in-Ok.ensures.0)

pub returns-in-Ok-clause-front : goal.returns-in-Ok-clause-front
returns-in-Ok-clause-front c =
    let stage_result = c.in-Ok.field-0 in
    c.in-Ok.ensures.1
    ∙ ap (λ (v : FrontedContent). front_after c.args.net.now c.args.place.now.node v stage_result.outcome) c.take.ensures

pub returns-in-Err-clause-binds : goal.returns-in-Err-clause-binds
returns-in-Err-clause-binds c =
    let P : Content → Type 0 = λ x. PutsPolicy c.args.net.now (step_of c.args.net.now c.args.place.now x c.args.choice).outcome in
    subst P (ap (λ (v : FrontedContent). v.content) c.take.ensures) c.in-Err.ensures.3
