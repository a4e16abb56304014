use Rattle.std.proofs.Common.{string_bytes, ◌-◌, arith}
use Rattle.net_generator.specs.Networks.{end_x_table}
use Rattle.net_generator.proofs.Growing.{written, ended}
use Rattle.net_generator.proofs.generated_sids.append_end_xs.Goals as goal

pub loop-i-preserved : goal.loop-i-preserved
loop-i-preserved c =
    written end_x_table c.loop-i.i (c.args.n - 1) (string_bytes c.loop-i.out) (string_bytes c.append_end_x.new.out) _
    (omega arith) c.in_ok-append_end_x.ensures c.loop-i.invariant

pub returns : goal.returns
returns c =
    ended end_x_table c.loop-i.i (c.args.n - 1) (string_bytes c.loop-i.out) _ (omega arith) c.loop-i.invariant
