use Rattle.std.proofs.Common.{◌≡◌, ◌≤◌, true, Some, [], Bool, List, length, reverse, ap, sym, ◌∙◌, subst}
use Rattle.srv6_rules.specs.declared.family.Family.TheVariants as families
use Rattle.srv6_rules.specs.Behaviours.{behaviour_policy, goes_on}
use Rattle.srv6_rules.specs.Policies.{outer_by}
use Rattle.walk_rules.specs.declared.place.How.{How}
use Rattle.walk_rules.specs.Relation.{IsHow}
use Rattle.walk_rules.proofs.PublicLaws.{sid_how}
use Rattle.intent_reader.specs.declared.intent.Step.{Step}
use Rattle.leg_table.proofs.PublicLaws.{intent_stands}
use Rattle.policy_walks.proofs.HeaderWalkRuns.{bound_there, named_there, origin_walked}
use Rattle.policy_walks.proofs.header_walk.origin_behind.Goals as goal

pub of-requires : goal.of-requires
of-requires c =
    bound_there c.args.net.now c.sid-entry.result.now.behaviour c.in-Some.policy
    (c.keeps_rules.ensures.facts.sid c.args.sid c.sid-entry.result.now c.sid-entry.ensures).behaviour.policy
    (sym c.policy.ensures ∙ c.in-Some.is)

pub walked-requires-clause-place : goal.walked-requires-clause-place
walked-requires-clause-place c =
    let keeps = c.keeps_rules.ensures.facts in
    let entry = c.sid-entry.result.now in (
      (keeps.sid c.args.sid entry c.sid-entry.ensures).node,
      subst (λ how. IsHow c.args.net.now entry.node how) (sym c.onward_from.ensures)
          (sid_how c.args.net.now c.args.sid entry keeps c.sid-entry.ensures),
    )

pub walked-requires-clause-few : goal.walked-requires-clause-few
walked-requires-clause-few c =
    subst (λ (ts : List Step). length ts ≤ 48) (sym c.as_slice.ensures)
    (intent_stands c.args.net.now c.args.intent.now c.requires.is_intent).1

pub returns-in_ok-top-in-Some : goal.returns-in_ok-top-in-Some
returns-in_ok-top-in-Some c =
    let net = c.args.net.now in
    let entry = c.sid-entry.result.now in
    let binds : behaviour_policy entry.behaviour ≡ Some c.in-Some.policy = sym c.policy.ensures ∙ c.in-Some.is in
    let found =
    named_there net c.in-Some.policy
    (bound_there net entry.behaviour c.in-Some.policy
    (c.keeps_rules.ensures.facts.sid c.args.sid entry c.sid-entry.ensures).behaviour.policy binds) in
    let goes : goes_on entry ≡ true = sym c.goes_on.ensures ∙ c.if-not-goes_on.false in
    origin_walked net c.args.intent.now c.args.position c.args.sid entry c.sid-entry.ensures goes c.in-Some.policy found.0 binds found.1 _ _
    (ap (λ (how : How). record { node = entry.node; how = how; family = families.V6 }) c.onward_from.ensures)
    (c.in_ok-top-in-Some.ensures found.0 found.1
    ∙ ap (λ (r : Bool). outer_by found.0.policy r families.V6 []) c.reduces.ensures)
    _ (ap reverse c.new.ensures.items) c.as_slice.result.now c.as_slice.ensures c.walked.result c.walked.ensures.value
    c.walked.ensures.within
