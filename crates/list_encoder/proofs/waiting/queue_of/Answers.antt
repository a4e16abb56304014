use Rattle.list_encoder.proofs.SearchFronts.{front_first}
use Rattle.list_encoder.proofs.waiting.queue_of.Goals as goal

pub returns-clause-front : goal.returns-clause-front
returns-clause-front c =
    front_first c.args.table.now c.in_ok-waiting.waiting c.in_ok-done.done.items c.args.count c.in_ok-waiting.ensures c.in_ok-done.ensures
