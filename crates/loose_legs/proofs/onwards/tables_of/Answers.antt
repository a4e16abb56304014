use Rattle.std.proofs.Common.{List, [], ◌∷◌, ◌++◌, Option, ◌∙◌, ap}
use Rattle.choice_graph.specs.declared.vertices.Found.{Found}
use Rattle.loose_legs.proofs.OnwardRows.{table_more}
use Rattle.loose_legs.proofs.onwards.tables_of.Goals as goal

pub loop-n-preserved : goal.loop-n-preserved
loop-n-preserved c =
    table_more c.args.net.now c.args.steps.now c.loop-n.n c.value-destination.result.value c.sid.result.now c.loop-n.tables.items _
    c.in_ok-find_ways.field-0.items c.loop-n.invariant c.sid.ensures c.value-destination.ensures.value c.in_ok-find_ways.ensures
    (c.in_ok-push.ensures.items ∙ ap (λ (t : List (Option Found)). c.loop-n.tables.items ++ t ∷ []) c.new.ensures)
