use Rattle.packet_walk.specs.Flight.{staged}
use Rattle.packet_walk.proofs.FlightRests.{staged_counted}
use Rattle.packet_walk.proofs.FlightComings.{over_ended, rest_over}
use Rattle.packet_walk.proofs.laws.the_last_stage_ends_a_packet.Goals as goal

pub returns : goal.returns
returns c =
    record {
      last = λ net p counted going none. over_ended net (staged net p) (staged_counted net p going counted) none;
      ended = λ net p some. rest_over net (staged net p) some;
    }
