use Rattle.std.proofs.Common.{ap, sym, ◌∙◌}
use Rattle.srv6_rules.specs.Endpoint.{Onward, at_sid}
use Rattle.policy_walks.proofs.HeaderWalkHeads.{spells_alone, spells_packet}
use Rattle.policy_walks.proofs.top_header.Head.come_to.Goals as goal

pub invariant_of-result : goal.invariant_of-result
invariant_of-result c = spells_alone c.step_at_sid.new.bytes.bytes c.in-On.ensures.packet c.in-On.ensures.spelled

pub returns-in-On : goal.returns-in-On
returns-in-On c =
    ap (at_sid c.args.sid.now c.args.allow.now) (sym c.self.view_is) ∙ c.in-On.ensures.is
    ∙ ap Onward (sym (spells_packet c.step_at_sid.new.bytes.bytes c.in-On.ensures.packet c.in-On.ensures.spelled))
