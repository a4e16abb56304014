use Rattle.update_flight.proofs.PassingFirsts.{early_none, first_waits, none_early}
use Rattle.update_flight.proofs.laws.a_removal_waits_for_the_first_early_packet.Goals as goal

pub returns : goal.returns
returns c =
    record {
      waits = λ t number is. first_waits t.early number t.packets.packets is;
      none = λ t is. early_none t.early t.packets.packets is;
      ended = λ t ended. none_early t.early t.packets.packets ended;
    }
