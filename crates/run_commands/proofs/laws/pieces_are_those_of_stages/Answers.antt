use Rattle.packet_walk.specs.Schedule.{scheduled}
use Rattle.run_commands.proofs.Mixing.{err_of_stages, out_of_stages}
use Rattle.run_commands.proofs.laws.pieces_are_those_of_stages.Goals as goal

pub returns : goal.returns
returns c = record {
  out = λ net schedule comings. out_of_stages net (scheduled schedule comings);
  err = λ net schedule comings. err_of_stages net (scheduled schedule comings);
}
