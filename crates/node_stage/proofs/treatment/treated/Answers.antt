use Rattle.std.proofs.Common.{◌≡◌, ◌∙◌, ap, sym}
use Rattle.srv6_rules.specs.Endpoint.{at_address}
use Rattle.srv6_rules.specs.Packet.{Packet, V6}
use Rattle.walk_rules.specs.Treatment.{judged, treated, treated_at_address}
use Rattle.walk_rules.specs.Way.{Way, Own}
use Rattle.walk_rules.specs.WayTerms.{way_in}
use Rattle.node_stage.proofs.EndpointLemmas.{own_judged}
use Rattle.node_stage.proofs.treatment.treated.Goals as goal

pub returns-in-Own : goal.returns-in-Own
returns-in-Own c =
    let net = c.args.net.now in
    let node = c.args.node in
    let p : Packet = c.args.packet.packet in
    let way : way_in c.args.way ≡ Own = ap way_in c.in-Own.is in
    let by : judged net node (V6 p) (treated net node (way_in c.args.way) p c.args.choice) ≡ treated_at_address net node p (at_address p) =
    ap (λ (w : Way). judged net node (V6 p) (treated net node w p c.args.choice)) way ∙ own_judged net node p (at_address p) in
    (c.treated_at_address.ensures.gave net node ∙ sym by, c.treated_at_address.ensures.front net node)

pub returns-in-Over : goal.returns-in-Over
returns-in-Over c =
    let net = c.args.net.now in
    let node = c.args.node in
    let p : Packet = c.args.packet.packet in
    let by = ap (λ (w : Way). judged net node (V6 p) (treated net node w p c.args.choice)) (ap way_in c.in-Over.is) in
    (c.sent.ensures.gave node ∙ sym by, c.sent.ensures.front node)
