use Rattle.prefix_table.specs.declared.index.Index.{Index}
use Rattle.prefix_table.proofs.IndexLemmas.{lengths_put}
use Rattle.prefix_table.proofs.index.Index.put.Goals as goal

pub returns-clause-lengths : goal.returns-clause-lengths
returns-clause-lengths c =
    let new : Index = record { places = c.insert.new.self; lengths = c.note_length.new.lengths } in
    lengths_put c.args.self.now new c.args.key c.args.place c.requires.lengths c.note_length.ensures.falling c.note_length.ensures.kept
    c.in_ok-note_length.ensures.noted c.in_ok-insert.ensures.updates
