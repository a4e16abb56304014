use Rattle.prefix_table.specs.declared.index.Index.{Index}
use Rattle.std.proofs.Common.{refl}
use Rattle.prefix_table.proofs.IndexLemmas.{lengths_taken}
use Rattle.prefix_table.proofs.index.Index.take.Goals as goal

pub returns-clause-lengths : goal.returns-clause-lengths
returns-clause-lengths c =
    let new : Index = record { places = c.remove.new.self; lengths = c.args.self.now.lengths } in
    lengths_taken c.args.self.now new c.args.key c.requires refl c.remove.ensures.updates
