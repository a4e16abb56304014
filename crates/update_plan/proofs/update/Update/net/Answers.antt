use Rattle.std.proofs.Common.{subst}
use Rattle.update_flight.specs.MomentTablesTerms.{AreAlike}
use Rattle.update_plan.specs.UpdateState.{Update, tables_now}
use Rattle.update_plan.proofs.Turns.{alike_now}
use Rattle.update_plan.proofs.update.Update.net.Goals as goal

pub returns : goal.returns
returns c =
    subst (λ (u : Update). AreAlike (tables_now u) c.self.inside.net) c.self.view_is
    (alike_now c.self.inside.net c.self.inside.transition c.self.invariant)
