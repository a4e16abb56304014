use Rattle.net_reader.proofs.ReadLemmas.{said_in_range}
use Rattle.net_reader.proofs.read.read_net.Goals as goal

pub judged_net-requires : goal.judged_net-requires
judged_net-requires c = said_in_range c.args.text.now c.in_ok-said.said c.in_ok-said.ensures
