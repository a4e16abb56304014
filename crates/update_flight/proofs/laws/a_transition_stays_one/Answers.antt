use Rattle.std.proofs.Common.{refl}
use Rattle.update_flight.proofs.PassingKept.{kept_move, kept_start}
use Rattle.update_flight.proofs.laws.a_transition_stays_one.Goals as goal

pub returns : goal.returns
returns c = record { start = kept_start; move_ = kept_move; packets = λ t. refl }
