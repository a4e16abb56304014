use Rattle.std.proofs.Common.{◌∙◌}
use Rattle.net_model.specs.NetworkTerms.{network_of}
use Rattle.update_theory.proofs.PublicLaws.{distinct_routes}
use Rattle.update_joined.proofs.PlanLemmas.{few_from, answers_from, entries_conflict}
use Rattle.update_joined.proofs.planned_parts.refuse_conflicts.Goals as goal

pub entries_of-requires-clause-own : goal.entries_of-requires-clause-own
entries_of-requires-clause-own c = few_from (network_of c.args.old.now) c.requires.old

pub entries_of-requires-clause-other : goal.entries_of-requires-clause-other
entries_of-requires-clause-other c = few_from (network_of c.args.new.now) c.requires.new

pub entries_of-requires-clause-distinct : goal.entries_of-requires-clause-distinct
entries_of-requires-clause-distinct c = distinct_routes (network_of c.args.new.now) c.requires.new

pub entries_of-requires-2-clause-own : goal.entries_of-requires-2-clause-own
entries_of-requires-2-clause-own c = few_from (network_of c.args.new.now) c.requires.new

pub entries_of-requires-2-clause-other : goal.entries_of-requires-2-clause-other
entries_of-requires-2-clause-other c = few_from (network_of c.args.old.now) c.requires.old

pub entries_of-requires-2-clause-distinct : goal.entries_of-requires-2-clause-distinct
entries_of-requires-2-clause-distinct c = distinct_routes (network_of c.args.old.now) c.requires.old

pub returns : goal.returns
returns c =
    answers_from c.refuse_conflict_among.result _
    (c.refuse_conflict_among.ensures
    ∙ entries_conflict (network_of c.args.old.now) (network_of c.args.new.now) c.as_slice-2.result.now c.in_ok-known.known.entries.items
    (c.as_slice-2.ensures.value ∙ c.in_ok-olds.ensures) (c.in_ok-known.ensures.same ∙ c.in_ok-news.ensures))
