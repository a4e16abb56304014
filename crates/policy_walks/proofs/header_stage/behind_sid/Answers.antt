use Rattle.std.proofs.Common.{◌≡◌, Some, [], Bool, ap, sym, ◌∙◌}
use Rattle.srv6_rules.specs.declared.family.Family.TheVariants as families
use Rattle.srv6_rules.specs.Behaviours.{behaviour_policy}
use Rattle.srv6_rules.specs.Policies.{outer_by}
use Rattle.policy_walks.proofs.HeaderWalkRuns.{bound_there, named_there}
use Rattle.policy_walks.proofs.HeaderWalkStages.{bound_go}
use Rattle.policy_walks.proofs.header_stage.behind_sid.Goals as goal

pub returns-in_ok-push-in-Some-clause-value : goal.returns-in_ok-push-in-Some-clause-value
returns-in_ok-push-in-Some-clause-value c = λ n from at.
    let net = c.args.net.now in
    let h = c.args.headers in
    let b = c.args.sid.now.behaviour in
    let binds : behaviour_policy b ≡ Some c.in-Some.policy = sym c.policy.ensures ∙ c.in-Some.is in
    let found = named_there net c.in-Some.policy (bound_there net b c.in-Some.policy c.requires.policy binds) in
    bound_go net from h.place n b h.top c.in_ok-pushed-in-Some.pushed h.below.items c.push.new.self.items c.in-Some.policy found.0 binds
    found.1 at
    (c.in_ok-pushed-in-Some.ensures found.0 found.1
    ∙ ap (λ (r : Bool). outer_by found.0.policy r families.V6 []) c.reduces.ensures)
    c.in_ok-push-in-Some.ensures.items
