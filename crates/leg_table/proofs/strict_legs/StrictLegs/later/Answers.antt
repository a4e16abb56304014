use Rattle.std.proofs.Common.{arith}
use Rattle.leg_table.proofs.StrictStarts.{later_from}
use Rattle.leg_table.proofs.strict_legs.StrictLegs.later.Goals as goal

pub returns-then-position-count : goal.returns-then-position-count
returns-then-position-count c = λ at stands.
    later_from c.args.self.now.net c.keeps_rules.ensures.facts c.args.self.now.intent c.keeps_rules.ensures.intent c.args.position at
    c.reach.result.now c.as_slice.result.now (omega (arith, c.count.ensures.value)) stands c.reach.ensures c.as_slice.ensures.value
