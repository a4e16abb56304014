use Rattle.std.proofs.Common.{ap}
use Rattle.walk_rules.specs.Treatment.{Gave}
use Rattle.walk_rules.specs.Walk.{Stage}
use Rattle.update_flight.proofs.OwnStages.{own_step}
use Rattle.update_flight.proofs.laws.own_stages_stay.Goals as goal

pub returns : goal.returns
returns c = λ own now keeps place content choice route.
    let stage : Gave → Stage = λ gave. record { place = place; before = content; gave = gave } in
    ap stage (own_step own now keeps place content choice route)
