use Rattle.std.proofs.Common.{[], ◌∷◌}
use Rattle.packet_walk.proofs.FlightNumbers.{packet_behind, turned_net, turned_other}
use Rattle.packet_walk.proofs.laws.a_turn_changes_one_packet.Goals as goal

pub returns : goal.returns
returns c =
    record {
      turn = λ f number other apart. turned_other number other f apart;
      enter = λ f p q number there. packet_behind f.packets (q ∷ []) number p there;
      network = λ f number. turned_net number f;
    }
