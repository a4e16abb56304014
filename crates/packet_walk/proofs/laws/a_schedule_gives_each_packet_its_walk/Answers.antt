use Rattle.std.proofs.Common.{◌∙◌, sym}
use Rattle.packet_walk.proofs.Schedules.{stages_scheduled, steps_scheduled}
use Rattle.packet_walk.proofs.FlightComings.{packet_stages}
use Rattle.packet_walk.proofs.laws.a_schedule_gives_each_packet_its_walk.Goals as goal

pub returns : goal.returns
returns c =
    record {
      steps = steps_scheduled;
      stages = stages_scheduled;
      same = λ number one other comings distinct.
          stages_scheduled number one comings distinct ∙ sym (stages_scheduled number other comings distinct);
      flight = packet_stages;
    }
