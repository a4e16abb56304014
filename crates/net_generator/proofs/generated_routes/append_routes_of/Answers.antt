use Rattle.std.proofs.Common.{string_bytes, arith}
use Rattle.net_generator.specs.Networks.{route_table}
use Rattle.net_generator.proofs.Growing.{written, ended, finished}
use Rattle.net_generator.proofs.generated_routes.append_routes_of.Goals as goal

pub loop-j-preserved : goal.loop-j-preserved
loop-j-preserved c =
    written (route_table c.args.i) c.loop-j.j c.args.n (string_bytes c.loop-j.out) (string_bytes c.append_route.new.out) _
    (omega arith) c.in_ok-append_route.ensures c.loop-j.invariant

pub returns : goal.returns
returns c =
    ended (route_table c.args.i) c.loop-j.j c.args.n (string_bytes c.loop-j.out) _ (omega arith) c.loop-j.invariant

pub returns-in_ok-append_route : goal.returns-in_ok-append_route
returns-in_ok-append_route c =
    finished (route_table c.args.i) c.loop-j.j c.args.n (string_bytes c.loop-j.out) (string_bytes c.append_route.new.out) _
    (omega arith) (omega arith) c.in_ok-append_route.ensures c.loop-j.invariant
