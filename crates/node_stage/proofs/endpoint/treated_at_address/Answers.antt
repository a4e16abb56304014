use Rattle.std.proofs.Common.{◌≡◌, sym, ap, ◌∙◌}
use Rattle.srv6_rules.specs.Endpoint.{Refused, at_address}
use Rattle.srv6_rules.specs.Packet.{Packet}
use Rattle.node_stage.specs.declared.stage_result.Staged.{Staged}
use Rattle.node_stage.specs.StageAnswers.{gave_of}
use Rattle.walk_rules.specs.Treatment.{treated_at_address}
use Rattle.srv6_rules.proofs.PublicLaws.{at_address_place}
use Rattle.node_stage.proofs.endpoint.treated_at_address.Goals as goal

pub refused-requires : goal.refused-requires
refused-requires c =
    at_address_place c.args.packet.packet c.in-Some.fault.reason c.in-Some.fault.at (ap at_address (sym c.view.ensures) ∙ c.in-Some.ensures)

pub returns-in-Some-clause-gave : goal.returns-in-Some-clause-gave
returns-in-Some-clause-gave c = λ net node.
    let p : Packet = c.args.packet.packet in
    let is : at_address p ≡ Refused c.in-Some.fault.reason c.in-Some.fault.at = ap at_address (sym c.view.ensures) ∙ c.in-Some.ensures in
    ap (λ (s : Staged). gave_of net node s) c.refused.ensures ∙ sym (ap (treated_at_address net node p) is)
