use Rattle.std.proofs.Common.{length, arith, ap}
use Rattle.leg_table.proofs.TransitFacts.{intent_stands}
use Rattle.leg_table.proofs.strict_legs.StrictLegs.count.Goals as goal

pub returns-clause-few : goal.returns-clause-few
returns-clause-few c =
    let e = ap length c.as_slice.ensures in
    let f = (intent_stands c.self.inside.net.now c.self.inside.intent.now c.self.invariant.is_intent).1 in
    omega arith

pub overflow_cast-result : goal.overflow_cast-result
overflow_cast-result c =
    let e = ap length c.as_slice.ensures in
    let f = (intent_stands c.self.inside.net.now c.self.inside.intent.now c.self.invariant.is_intent).1 in
    omega arith
