use Rattle.std.proofs.Common.{sym}
use Rattle.list_pack.proofs.ListMaking.{last_at}
use Rattle.segment_reading.proofs.asked.last_of.Goals as goal

pub returns-in-Some : goal.returns-in-Some
returns-in-Some c = λ sid_on. last_at sid_on c.args.first.now c.in-Some.last.now c.args.more.now (sym c.in-Some.ensures.value)
