use Rattle.walk_commands.proofs.PublicLaws.{headend_ready, headend_within}
use Rattle.generate_commands.proofs.summing.summary_of_list.Goals as goal

pub count_packets-requires-clause-ready : goal.count_packets-requires-clause-ready
count_packets-requires-clause-ready c =
    headend_ready c.args.net.now c.args.intent.now c.args.compiled.now c.in_ok-headend.headend c.requires.intent c.requires.compiled
    c.in_ok-headend.ensures

pub count_packets-requires-clause-within : goal.count_packets-requires-clause-within
count_packets-requires-clause-within c =
    headend_within c.args.net.now c.args.intent.now c.args.compiled.now c.in_ok-headend.headend c.requires.intent c.in_ok-headend.ensures
