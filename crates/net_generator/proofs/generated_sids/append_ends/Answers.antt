use Rattle.std.proofs.Common.{string_bytes, arith}
use Rattle.net_generator.specs.Networks.{end_table}
use Rattle.net_generator.proofs.Growing.{written, ended, finished}
use Rattle.net_generator.proofs.generated_sids.append_ends.Goals as goal

pub loop-i-preserved : goal.loop-i-preserved
loop-i-preserved c =
    written end_table c.loop-i.i c.args.n (string_bytes c.loop-i.out) (string_bytes c.append_end.new.out) _
    (omega arith) c.in_ok-append_end.ensures c.loop-i.invariant

pub returns : goal.returns
returns c =
    ended end_table c.loop-i.i c.args.n (string_bytes c.loop-i.out) _ (omega arith) c.loop-i.invariant

pub returns-in_ok-append_end : goal.returns-in_ok-append_end
returns-in_ok-append_end c =
    finished end_table c.loop-i.i c.args.n (string_bytes c.loop-i.out) (string_bytes c.append_end.new.out) _
    (omega arith) (omega arith) c.in_ok-append_end.ensures c.loop-i.invariant
