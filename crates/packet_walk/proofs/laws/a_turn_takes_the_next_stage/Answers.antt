use Rattle.std.proofs.Common.{refl}
use Rattle.packet_walk.proofs.FlightRests.{rest_going, rest_ended, end_going, end_ended}
use Rattle.packet_walk.proofs.laws.a_turn_takes_the_next_stage.Goals as goal

pub returns : goal.returns
returns c =
    record {
      next = λ net p counted going. rest_going net p going (counted.left going);
      end = λ net p counted going. end_going net p going (counted.left going);
      over = rest_ended;
      over_end = end_ended;
      first = λ net content place choices. (refl, refl);
    }
