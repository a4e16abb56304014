use Rattle.run_commands.specs.AtNode.{admission_at_node}
use Rattle.run_commands.proofs.Mixing.{driven_mixes, driven_tells, driven_walks}
use Rattle.run_commands.proofs.laws.a_schedule_mixes_walks.Goals as goal

pub returns : goal.returns
returns c = record {
  frames = λ net node number choices schedule packets. driven_mixes net choices (admission_at_node node) packets number schedule;
  lines = λ net node number choices schedule packets. driven_tells net choices (admission_at_node node) packets number schedule;
  walks = λ net node choices packets. driven_walks net choices (admission_at_node node) packets;
}
