use Rattle.update_plan.proofs.WholeWalks.{one_walk}
use Rattle.update_plan.proofs.laws.each_packet_takes_one_walk.Goals as goal

pub returns : goal.returns
returns c = λ old new moves more before after rules accepted one other routes.
    one_walk old new moves more before after rules accepted one other routes
