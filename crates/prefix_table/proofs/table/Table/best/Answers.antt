use Rattle.std.proofs.Common.{subst}
use Rattle.prefix_table.specs.Index.{IsIndex}
use Rattle.prefix_table.proofs.IndexLemmas.{best_by_longest, place_within, none_by_key}
use Rattle.prefix_table.proofs.table.Table.best.Goals as goal

pub returns-in-None-clause-best : goal.returns-in-None-clause-best
returns-in-None-clause-best g c =
    none_by_key c.args.self.now c.self.inside.index c.args.a.value
    (subst (λ xs. IsIndex xs c.self.inside.index) c.self.view_is c.self.invariant.places) c.in-None.ensures

pub entry-requires : goal.entry-requires
entry-requires g c =
    place_within c.args.self.now c.self.inside.index c.args.a.value c.in-Some.place
    (subst (λ xs. IsIndex xs c.self.inside.index) c.self.view_is c.self.invariant.places) c.in-Some.ensures

pub returns-in-Some-clause-best : goal.returns-in-Some-clause-best
returns-in-Some-clause-best g c =
    best_by_longest c.args.self.now c.self.inside.index c.args.a.value c.in-Some.place _
    (subst (λ xs. IsIndex xs c.self.inside.index) c.self.view_is c.self.invariant.places) c.in-Some.ensures c.entry.ensures
