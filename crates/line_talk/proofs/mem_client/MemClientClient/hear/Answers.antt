use Rattle.std.proofs.Common.{length}
use Rattle.line_talk.proofs.Asks.{hears, hears_told}
use Rattle.line_talk.proofs.mem_client.MemClientClient.hear.Goals as goal

pub returns-then-begin_read-clause-talk : goal.returns-then-begin_read-clause-talk
returns-then-begin_read-clause-talk c =
    let begun = c.if-begin_read.ensures in
    hears_told c.args.self.now c.begin_read.new.self c.give.new.self (length c.args.into.now) c.give.result c.give.new.into begun.1 c.give.ensures.count c.give.ensures.filled
    c.give.ensures.given c.give.auto.into

pub returns-then-begin_read-clause-hears : goal.returns-then-begin_read-clause-hears
returns-then-begin_read-clause-hears c =
    let begun = c.if-begin_read.ensures in
    hears c.args.self.now c.begin_read.new.self c.give.new.self (length c.args.into.now) c.give.result c.give.new.into begun.0 begun.1 c.give.ensures.count c.give.ensures.filled
    c.give.ensures.given
