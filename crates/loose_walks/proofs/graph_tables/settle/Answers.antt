use Rattle.std.proofs.Common.{◌∙◌}
use Rattle.loose_walks.proofs.Filling.{all_found}
use Rattle.loose_walks.proofs.graph_tables.settle.Goals as goal

pub returns : goal.returns
returns c =
    all_found c.args.net.now c.args.ways.now.destination.value c.args.steps.now c.rounds.table
    (c.rounds.auto.table ∙ c.go_over.auto.table ∙ c.requires.one_each)
    c.rounds.invariant.sound (c.rounds.invariant.settled c.rounds-test.false)
