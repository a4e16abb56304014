use Rattle.packet_walk.proofs.Schedules.{count_scheduled}
use Rattle.packet_walk.proofs.laws.a_schedule_takes_all_steps.Goals as goal

pub returns : goal.returns
returns c = count_scheduled
