use Rattle.std.proofs.Common.{refl}
use Rattle.prefix_table.specs.declared.index.Index.{Index}
use Rattle.prefix_table.proofs.IndexLemmas.{lengths_moved}
use Rattle.prefix_table.proofs.index.Index.move_to.Goals as goal

pub returns-in-Some-clause-lengths : goal.returns-in-Some-clause-lengths
returns-in-Some-clause-lengths c =
    let old = c.args.self.now in
    let new : Index = record { places = c.get_mut.follows.lender c.args.place; lengths = old.lengths } in
    lengths_moved old new c.args.key c.args.place c.requires.lengths refl c.requires.there
    ((c.get_mut.follows.holds c.args.place).3 c.requires.there)
