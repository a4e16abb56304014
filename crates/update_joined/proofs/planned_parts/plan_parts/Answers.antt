use Rattle.std.proofs.Common.{sym, subst}
use Rattle.net_model.specs.NetworkTerms.{network_of}
use Rattle.net_model.specs.NetworkRulesTerms.{IsNetwork}
use Rattle.net_model.specs.NetworkJudgingTerms.{InRange}
use Rattle.update_spec.specs.Planning.{planning}
use Rattle.update_theory.proofs.PublicLaws.{distinct_routes, joined_rules, joined_range}
use Rattle.update_joined.proofs.PlanLemmas.{few_from, few_titles, answers_err, answers_none, differences_fault, conflicts_fault, limits_answer}
use Rattle.update_joined.proofs.planned_parts.plan_parts.Goals as goal

pub refuse_differences-requires : goal.refuse_differences-requires
refuse_differences-requires c = few_from (network_of c.args.old) c.requires.old_rules

pub join-requires-clause-few : goal.join-requires-clause-few
join-requires-clause-few c = few_from (network_of c.args.old) c.requires.old_rules

pub join-requires-clause-titles : goal.join-requires-clause-titles
join-requires-clause-titles c =
    few_titles (network_of c.args.old) (network_of c.args.new.now) c.requires.old_rules c.requires.new_rules c.requires.old_range

pub join-requires-clause-distinct : goal.join-requires-clause-distinct
join-requires-clause-distinct c = distinct_routes (network_of c.args.old) c.requires.old_rules

pub returns-in_err-refuse_differences-clause-answer : goal.returns-in_err-refuse_differences-clause-answer
returns-in_err-refuse_differences-clause-answer c =
    let old = network_of c.args.old in
    let new = network_of c.args.new.now in
    answers_err c.from_residual.result c.in_err-refuse_differences.field-0.0 (planning old new) c.from_residual.ensures.1
    (λ _. differences_fault old new c.in_err-refuse_differences.field-0.0 (sym c.in_err-refuse_differences.ensures))

pub returns-in_err-refuse_conflicts-clause-answer : goal.returns-in_err-refuse_conflicts-clause-answer
returns-in_err-refuse_conflicts-clause-answer c =
    let old = network_of c.args.old in
    let new = network_of c.args.new.now in
    answers_err c.from_residual-in_err-refuse_conflicts.result c.in_err-refuse_conflicts.field-0.0 (planning old new)
    c.from_residual-in_err-refuse_conflicts.ensures.1
    (λ other. conflicts_fault old new c.in_err-refuse_conflicts.field-0.0 (sym c.in_ok-refuse_differences.ensures)
    (c.in_err-refuse_conflicts.ensures other))

pub returns-in_err-parts-clause-answer : goal.returns-in_err-parts-clause-answer
returns-in_err-parts-clause-answer c =
    answers_none c.from_residual-in_err-parts.result (planning (network_of c.args.old) (network_of c.args.new.now))
    c.from_residual-in_err-parts.ensures.1

pub returns-in_err-refuse_limits-clause-answer : goal.returns-in_err-refuse_limits-clause-answer
returns-in_err-refuse_limits-clause-answer c =
    let old = network_of c.args.old in
    let new = network_of c.args.new.now in
    answers_err c.from_residual-in_err-refuse_limits.result c.in_err-refuse_limits.field-0.0 (planning old new)
    c.from_residual-in_err-refuse_limits.ensures.1
    (λ _. limits_answer old new (network_of c.in_ok-parts.parts) _ (sym c.in_ok-refuse_differences.ensures)
    c.in_ok-refuse_conflicts.ensures c.in_ok-parts.ensures c.in_err-refuse_limits.ensures)

pub returns-clause-answer : goal.returns-clause-answer
returns-clause-answer c =
    limits_answer (network_of c.args.old) (network_of c.args.new.now) (network_of c.in_ok-parts.parts) _
    (sym c.in_ok-refuse_differences.ensures) c.in_ok-refuse_conflicts.ensures c.in_ok-parts.ensures c.in_ok-refuse_limits.ensures

pub returns-clause-joined : goal.returns-clause-joined
returns-clause-joined c = c.in_ok-parts.ensures

pub returns-clause-rules : goal.returns-clause-rules
returns-clause-rules c =
    subst IsNetwork (sym c.in_ok-parts.ensures)
    (joined_rules (network_of c.args.old) (network_of c.args.new.now) c.requires.old_rules c.requires.new_rules c.requires.old_range
    c.requires.new_range (returns-clause-answer c))

pub returns-clause-range : goal.returns-clause-range
returns-clause-range c =
    subst InRange (sym c.in_ok-parts.ensures)
    (joined_range (network_of c.args.old) (network_of c.args.new.now) c.requires.old_rules c.requires.new_rules c.requires.old_range
    c.requires.new_range (returns-clause-answer c))
