use Rattle.std.proofs.Common.{ap, sym, ◌∙◌, ◌≡◌, []}
use Rattle.net_model.specs.declared.parts.NamedPolicy.{NamedPolicy}
use Rattle.srv6_rules.specs.declared.policy.Policy.{Policy}
use Rattle.srv6_rules.specs.declared.family.Family.TheVariants as families
use Rattle.srv6_rules.specs.Policies.{outer_by}
use Rattle.std.proofs.lemmas.Option.{same_Some}
use Rattle.node_stage.proofs.EndpointLemmas.{policy_is}
use Rattle.pkt_buf.specs.BufferView.{Buffer}
use Rattle.policy_walks.proofs.HeaderWalkHeads.{made_is, spells_alone}
use Rattle.policy_walks.proofs.top_header.Head.of.Goals as goal

pub push-requires-clause-policy : goal.push-requires-clause-policy
push-requires-clause-policy c =
    let (named, there, is) = c.policy-policy.ensures in
    policy_is c.args.net.now c.args.number named _ c.keeps_rules.ensures.facts there is

pub invariant_of-result : goal.invariant_of-result
invariant_of-result c = spells_alone c.push.new.buf.bytes c.in-Ok.ensures.answer.packet c.in-Ok.ensures.answer.spelled

pub returns-in-Ok : goal.returns-in-Ok
returns-in-Ok c = λ named there.
    let (other, found, is) = c.policy-policy.ensures in
    let policy = policy_is c.args.net.now c.args.number other _ c.keeps_rules.ensures.facts found is in
    let same : other ≡ named = same_Some other named (sym found ∙ there) in
    let empty = ap (λ (b : Buffer). b.bytes) c.of-bytes.ensures ∙ c.new.ensures.items in
    made_is c.policy-policy.result.now c.args.reduced families.V6 c.of-bytes.result.bytes c.push.new.buf.bytes policy empty
    c.in-Ok.ensures.answer
    ∙ ap (λ (p : Policy). outer_by p c.args.reduced families.V6 []) (is ∙ ap (λ (n : NamedPolicy). n.policy) same)
