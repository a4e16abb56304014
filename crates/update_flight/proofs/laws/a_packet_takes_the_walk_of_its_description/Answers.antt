use Rattle.update_flight.proofs.Whole.{own_entry, whole}
use Rattle.update_flight.proofs.laws.a_packet_takes_the_walk_of_its_description.Goals as goal

pub returns : goal.returns
returns c =
    record {
      rest = λ tables t number moves p pass is there counted routes. whole tables number moves t p pass is there counted routes;
      own = own_entry;
    }
