use Rattle.std.proofs.Common.{subst}
use Rattle.update_joined.specs.PrefixKeys.{IsIndexed}
use Rattle.update_joined.proofs.PrefixLemmas.{indexed_more}
use Rattle.update_joined.proofs.prefix_index.index_entries.Goals as goal

pub loop-e-preserved : goal.loop-e-preserved
loop-e-preserved c =
    let index = c.put_entry.new.index in
    indexed_more c.loop-e.index index c.args.entries.now c.loop-e.e-index c.e-item.result c.loop-e-test.true c.loop-e.invariant
    c.in_ok-put_entry.ensures.kept (subst (IsIndexed index) c.e-item.is c.in_ok-put_entry.ensures.put)
