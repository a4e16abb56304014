use Rattle.run_commands.proofs.PublicLaws.{driven_mixes, driven_tells, driven_walks}
use Rattle.walk_commands.specs.WalkCommand.{admission_at_headend}
use Rattle.walk_commands.proofs.laws.a_schedule_mixes_walks.Goals as goal

pub returns : goal.returns
returns c = record {
  frames = λ net headend number choices schedule packets. driven_mixes net choices (admission_at_headend headend) packets number schedule;
  lines = λ net headend number choices schedule packets. driven_tells net choices (admission_at_headend headend) packets number schedule;
  walks = λ net headend choices packets. driven_walks net choices (admission_at_headend headend) packets;
}
