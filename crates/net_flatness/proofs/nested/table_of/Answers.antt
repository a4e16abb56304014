use Rattle.std.proofs.Common.{refl}
use Rattle.std.proofs.lemmas.Option.{slice_get_read}
use Rattle.srv6_rules.specs.declared.sid.SidEntry.{SidEntry}
use Rattle.prefix_table.specs.PrefixTable.{HasPrefix}
use Rattle.net_flatness.proofs.SearchLemmas.{first_holds_more, all_first}
use Rattle.net_flatness.proofs.nested.table_of.Goals as goal

pub loop-s-preserved : goal.loop-s-preserved
loop-s-preserved c =
    let now = c.put_prefix.new.table in
    first_holds_more (λ (s : SidEntry). HasPrefix now s.prefix) c.args.sids.now c.loop-s.s-index c.s-item.result
    (slice_get_read c.args.sids.now _ c.loop-s.s-index c.s-item.result refl c.loop-s-test.true c.s-item.is)
    c.in_ok-put_prefix.ensures.has
    (λ k s less e. c.in_ok-put_prefix.ensures.kept s.prefix (c.loop-s.invariant k s less e))

pub returns : goal.returns
returns c =
    all_first (λ (s : SidEntry). HasPrefix c.loop-s.table s.prefix) c.args.sids.now c.loop-s.s-index c.loop-s-test.false c.loop-s.invariant
