use Rattle.std.proofs.Common.{length, arith, ap}
use Rattle.leg_table.specs.StrictTableTerms.{LegTable}
use Rattle.leg_table.proofs.StrictPositions.{sid_within}
use Rattle.leg_table.proofs.strict_legs.StrictLegsLegs.stays.Goals as goal

pub may_stay-requires-clause-is_there : goal.may_stay-requires-clause-is_there
may_stay-requires-clause-is_there c =
    let within = sid_within c.args.self.now.net c.keeps_rules.ensures.facts c.args.self.now.intent c.requires.sid.0 c.args.sid
    c.requires.sid.2 in
    let e = ap (λ (t : LegTable). length t.net.sids) c.self.view_is in
    omega arith

pub may_stay-requires-clause-next_there : goal.may_stay-requires-clause-next_there
may_stay-requires-clause-next_there c =
    let within = sid_within c.args.self.now.net c.keeps_rules.ensures.facts c.args.self.now.intent c.requires.next.0 c.args.next
    c.requires.next.2 in
    let e = ap (λ (t : LegTable). length t.net.sids) c.self.view_is in
    omega arith
