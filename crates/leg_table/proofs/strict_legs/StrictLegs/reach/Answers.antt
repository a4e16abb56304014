use Rattle.std.proofs.Common.{◌≡◌, ◌≤◌, ◌-◌, ◌+◌, ℕ, length, drop, get_or, Some, subst, ap, sym, ◌∙◌, arith}
use Rattle.std.proofs.lemmas.Option.{slice_get_read}
use Rattle.leg_table.specs.TransitTables.{IsReach}
use Rattle.leg_table.specs.PositionSids.{node_at}
use Rattle.leg_table.specs.StrictTableTerms.{LegTable}
use Rattle.leg_table.proofs.strict_legs.StrictLegs.reach.Goals as goal

pub returns : goal.returns
returns c =
    let within = subst (λ (t : LegTable). c.args.position ≤ length t.intent.steps) (sym c.self.view_is) c.requires in
    let same = c.count-count.ensures.value ∙ sym (ap (λ (t : LegTable). length t.intent.steps) c.self.view_is) in
    let read = subst (λ (k : ℕ). c.index.result.now ≡ get_or c.self.inside.reaches.items (k - c.args.position) c.index.result.now) same
    c.index.ensures in
    let steps = length c.self.inside.intent.now.steps in
    let found = slice_get_read c.self.inside.reaches.items (steps + 1) (steps - c.args.position) c.index.result.now
    (sym c.self.invariant.are_reaches.count) (omega arith) read in
    subst (λ (t : LegTable). (at : ℕ) → node_at t.net t.intent c.args.position ≡ Some at
    → IsReach t.net (drop c.args.position t.intent.steps) at c.index.result.now) c.self.view_is
    (λ at stands. c.self.invariant.are_reaches.each c.args.position at c.index.result.now within stands found)
