use Rattle.std.proofs.Common.{length, arith, ap}
use Rattle.leg_table.specs.StrictTableTerms.{LegTable}
use Rattle.leg_table.proofs.StrictPositions.{sid_within}
use Rattle.leg_table.proofs.strict_legs.StrictLegsLegs.shape.Goals as goal

pub shape_of-requires : goal.shape_of-requires
shape_of-requires c =
    let within = sid_within c.args.self.now.net c.keeps_rules.ensures.facts c.args.self.now.intent c.requires.0 c.args.sid c.requires.2 in
    let e = ap (λ (t : LegTable). length t.net.sids) c.self.view_is in
    omega arith
