use Rattle.std.proofs.Common.{string_bytes, arith}
use Rattle.net_generator.specs.Networks.{link_tables}
use Rattle.net_generator.proofs.Growing.{written, ended, finished}
use Rattle.net_generator.proofs.generated_net.append_chain.Goals as goal

pub loop-i-preserved : goal.loop-i-preserved
loop-i-preserved c =
    written link_tables c.loop-i.i c.args.n (string_bytes c.loop-i.out) (string_bytes c.append_links_to.new.out) _
    (omega arith) c.in_ok-append_links_to.ensures c.loop-i.invariant

pub returns : goal.returns
returns c =
    ended link_tables c.loop-i.i c.args.n (string_bytes c.loop-i.out) _ (omega arith) c.loop-i.invariant

pub returns-in_ok-append_links_to : goal.returns-in_ok-append_links_to
returns-in_ok-append_links_to c =
    finished link_tables c.loop-i.i c.args.n (string_bytes c.loop-i.out) (string_bytes c.append_links_to.new.out) _
    (omega arith) (omega arith) c.in_ok-append_links_to.ensures c.loop-i.invariant
