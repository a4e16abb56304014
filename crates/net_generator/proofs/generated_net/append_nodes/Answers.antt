use Rattle.std.proofs.Common.{string_bytes, arith}
use Rattle.net_generator.specs.Networks.{node_table}
use Rattle.net_generator.proofs.Growing.{written, ended, finished}
use Rattle.net_generator.proofs.generated_net.append_nodes.Goals as goal

pub loop-i-preserved : goal.loop-i-preserved
loop-i-preserved c =
    written node_table c.loop-i.i c.args.n (string_bytes c.loop-i.out) (string_bytes c.append_node.new.out) _
    (omega arith) c.in_ok-append_node.ensures c.loop-i.invariant

pub returns : goal.returns
returns c =
    ended node_table c.loop-i.i c.args.n (string_bytes c.loop-i.out) _ (omega arith) c.loop-i.invariant

pub returns-in_ok-append_node : goal.returns-in_ok-append_node
returns-in_ok-append_node c =
    finished node_table c.loop-i.i c.args.n (string_bytes c.loop-i.out) (string_bytes c.append_node.new.out) _
    (omega arith) (omega arith) c.in_ok-append_node.ensures c.loop-i.invariant
