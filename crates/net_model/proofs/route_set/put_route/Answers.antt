use Rattle.std.proofs.Common.{true, subst}
use Rattle.std.specs.BTreeSet as tree
use Rattle.net_model.specs.EntryKeys.{entry_key_cmp}
use Rattle.net_model.proofs.RouteSetLemmas.{has_more}
use Rattle.net_model.proofs.route_set.put_route.Goals as goal

pub returns-clause-kept : goal.returns-clause-kept
returns-clause-kept c = λ before has.
    has_more c.args.keys.now c.insert.new.self before c.args.r.now has
    (subst (λ k. tree.Updates entry_key_cmp c.args.keys.now c.insert.new.self k true) c.key_of.ensures c.in_ok-is_new.ensures.updates)
