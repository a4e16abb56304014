use Rattle.std.proofs.Common.{refl}
use Rattle.packet_walk.proofs.Schedules.{steps_out}
use Rattle.packet_walk.proofs.laws.no_schedule_takes_packets_one_by_one.Goals as goal

pub returns : goal.returns
returns c = record { stages = λ comings. refl; steps = steps_out }
