use Rattle.net_model.specs.NetworkTerms.{network_of}
use Rattle.update_theory.proofs.PublicLaws.{distinct_routes}
use Rattle.update_joined.proofs.PlanLemmas.{few_from}
use Rattle.update_joined.proofs.ChangeLemmas.{removed_gathered}
use Rattle.update_joined.proofs.changes.removed_entries.Goals as goal

pub entries_of-requires-clause-own : goal.entries_of-requires-clause-own
entries_of-requires-clause-own c = few_from (network_of c.args.old.now) c.requires.old

pub entries_of-requires-clause-other : goal.entries_of-requires-clause-other
entries_of-requires-clause-other c = few_from (network_of c.args.new.now) c.requires.new

pub entries_of-requires-clause-distinct : goal.entries_of-requires-clause-distinct
entries_of-requires-clause-distinct c = distinct_routes (network_of c.args.new.now) c.requires.new

pub returns : goal.returns
returns c =
    removed_gathered (network_of c.args.old.now) (network_of c.args.new.now) c.as_slice.result.now c.in_ok-olds.olds.items c.lacked.result
    c.as_slice.ensures.value c.in_ok-olds.ensures c.lacked.ensures
