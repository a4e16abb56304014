use Rattle.std.proofs.Common.{ap, sym, ◌∙◌}
use Rattle.walk_rules.specs.Treatment.{allow_of}
use Rattle.net_model.proofs.PublicLaws.{sid_suits, sid_unflavoured, sid_not_next}
use Rattle.node_stage.proofs.EndpointLemmas.{not_next, policy_there, policy_is, stages_as, sid_treated}
use Rattle.node_stage.proofs.endpoint.treated_in.Goals as goal

pub treated_at_sid-requires-clause-suits : goal.treated_at_sid-requires-clause-suits
treated_at_sid-requires-clause-suits c =
    sid_suits c.args.net.now c.args.sid c.sid-entry.result.now c.keeps_rules.ensures.facts c.sid-entry.ensures

pub treated_at_sid-requires-clause-usp : goal.treated_at_sid-requires-clause-usp
treated_at_sid-requires-clause-usp c = λ stays.
    (sid_unflavoured c.args.net.now c.args.sid c.sid-entry.result.now c.keeps_rules.ensures.facts c.sid-entry.ensures stays).usp

pub treated_at_sid-requires-clause-next : goal.treated_at_sid-requires-clause-next
treated_at_sid-requires-clause-next c = λ stays.
    not_next c.sid-entry.result.now.csid
    (sid_not_next c.args.net.now c.args.sid c.sid-entry.result.now c.keeps_rules.ensures.facts c.sid-entry.ensures stays)

pub bound_at_sid-requires-clause-suits : goal.bound_at_sid-requires-clause-suits
bound_at_sid-requires-clause-suits c =
    sid_suits c.args.net.now c.args.sid c.sid-entry.result.now c.keeps_rules.ensures.facts c.sid-entry.ensures

pub policy-requires-in-Some : goal.policy-requires-in-Some
policy-requires-in-Some c =
    policy_there c.args.net.now c.args.sid c.sid-entry.result.now c.in-Some.policy c.keeps_rules.ensures.facts c.sid-entry.ensures
    (sym c.policy.ensures ∙ c.in-Some.is)

pub bound_at_sid-requires-clause-policy : goal.bound_at_sid-requires-clause-policy
bound_at_sid-requires-clause-policy c =
    let (named, there, is) = c.policy-in-Some.ensures in
    policy_is c.args.net.now c.in-Some.policy named _ c.keeps_rules.ensures.facts there is

pub treated_at_sid-requires-clause-unbound : goal.treated_at_sid-requires-clause-unbound
treated_at_sid-requires-clause-unbound c = λ q on. sym c.policy.ensures ∙ c.in-None.is

pub returns-in-Some : goal.returns-in-Some
returns-in-Some c =
    let net = c.args.net.now in
    let node = c.args.node in
    let (named, there, is) = c.policy-in-Some.ensures in
    let of = c.as_slice-allow.ensures ∙ sym (ap allow_of c.node.ensures) in
    stages_as net node _ _ _ _
    (sid_treated net node c.args.sid c.sid-entry.result.now _ _ c.args.packet.packet c.sid-entry.ensures c.node.ensures
    c.as_slice-allow.ensures)
    (c.bound_at_sid.ensures net node c.in-Some.policy named c.sid-entry.ensures (sym c.policy.ensures ∙ c.in-Some.is) there is of)

pub returns-in-None : goal.returns-in-None
returns-in-None c =
    let net = c.args.net.now in
    let node = c.args.node in
    let of = c.as_slice-allow.ensures ∙ sym (ap allow_of c.node.ensures) in
    let given = c.treated_at_sid.ensures net node c.sid-entry.ensures of in (
      given.0
          ∙ sid_treated net node c.args.sid c.sid-entry.result.now _ _ c.args.packet.packet c.sid-entry.ensures c.node.ensures
          c.as_slice-allow.ensures,
      given.1,
    )
