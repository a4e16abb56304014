use Rattle.std.proofs.Common.{string_bytes, ◌-◌, arith}
use Rattle.net_generator.specs.Networks.{routes_of}
use Rattle.net_generator.proofs.Growing.{written, ended}
use Rattle.net_generator.proofs.generated_routes.append_routes_in_block.Goals as goal

pub loop-i-preserved : goal.loop-i-preserved
loop-i-preserved c =
    written (routes_of c.args.n) c.loop-i.i (c.args.n - 1) (string_bytes c.loop-i.out) (string_bytes c.append_routes_of.new.out) _
    (omega arith) c.in_ok-append_routes_of.ensures c.loop-i.invariant

pub returns : goal.returns
returns c =
    ended (routes_of c.args.n) c.loop-i.i (c.args.n - 1) (string_bytes c.loop-i.out) _ (omega arith) c.loop-i.invariant
