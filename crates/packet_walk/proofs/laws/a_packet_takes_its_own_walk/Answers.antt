use Rattle.packet_walk.specs.Flight.{entering}
use Rattle.packet_walk.proofs.Moves.{given_to_law}
use Rattle.packet_walk.proofs.FlightRests.{entering_counted}
use Rattle.packet_walk.proofs.laws.a_packet_takes_its_own_walk.Goals as goal

pub returns : goal.returns
returns c =
    record {
      rest = λ f number p moves there counted. given_to_law number moves f p there counted;
      walk = λ f number moves content place choices some there.
          given_to_law number moves f (entering content place choices) there (entering_counted content place choices some);
    }
