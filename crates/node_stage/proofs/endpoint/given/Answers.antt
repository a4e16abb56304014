use Rattle.std.proofs.Common.{◌∙◌, ap}
use Rattle.srv6_rules.specs.Endpoint.{at_sid}
use Rattle.srv6_rules.specs.Packet.{packet_at}
use Rattle.node_stage.specs.Fronted.{FrontedContent}
use Rattle.node_stage.specs.FrontedTerms.{fronted_at}
use Rattle.node_stage.specs.StageAnswers.{gave_of}
use Rattle.node_stage.proofs.EndpointLemmas.{came_on, came_here, comes_on, comes_here}
use Rattle.node_stage.proofs.StageFrontLemmas.{front_on, front_hand, front_here, front_dropped}
use Rattle.node_stage.proofs.endpoint.given.Goals as goal

pub returns-in-On-clause-gave : goal.returns-in-On-clause-gave
returns-in-On-clause-gave c = λ net node allow old alone unbound came.
    came_on net node c.args.sid c.args.entry.now allow old (gave_of net node c.again.result) c.args.bytes.bytes
    (c.again.ensures.gave net node) (unbound c.in-On.is)
    (comes_on (at_sid c.args.entry.now allow (packet_at old)) old c.args.bytes.bytes c.args.outcome c.in-On.is came)

pub returns-in-On-clause-front : goal.returns-in-On-clause-front
returns-in-On-clause-front c = λ net node allow old there of alone unbound came after.
    c.again.ensures.front net node (fronted_at old)
    (front_on net c.args.sid c.args.entry.now old c.args.bytes c.args.outcome c.in-On.is there (unbound c.in-On.is) after)

pub returns-in-Hand-clause-front : goal.returns-in-Hand-clause-front
returns-in-Hand-clause-front c = λ net node allow old there of alone unbound came after.
    ap (λ (v : FrontedContent). v.front) c.read_as.ensures
    ∙ front_hand net node c.args.sid c.args.entry.now allow c.in-Hand.family old c.args.bytes c.args.outcome c.in-Hand.is there of alone
    came after

pub returns-in-Local-clause-gave : goal.returns-in-Local-clause-gave
returns-in-Local-clause-gave c = λ net node allow old alone unbound came.
    came_here net node c.args.sid c.args.entry.now allow old c.args.bytes.bytes c.read.result.content
    (ap (λ (v : FrontedContent). v.content) c.read.ensures)
    (comes_here (at_sid c.args.entry.now allow (packet_at old)) old c.args.bytes.bytes c.args.outcome c.in-Local.is came)

pub returns-in-Local-clause-front : goal.returns-in-Local-clause-front
returns-in-Local-clause-front c = λ net node allow old there of alone unbound came after.
    ap (λ (v : FrontedContent). v.front) c.read.ensures ∙ front_here old c.args.bytes c.args.outcome c.in-Local.is after

pub returns-in-Drop-clause-front : goal.returns-in-Drop-clause-front
returns-in-Drop-clause-front c = λ net node allow old there of alone unbound came after.
    ap (λ (v : FrontedContent). v.front) c.read-in-Drop.ensures
    ∙ front_dropped old c.args.bytes c.in-Drop.reason c.in-Drop.at c.args.outcome c.in-Drop.is after
