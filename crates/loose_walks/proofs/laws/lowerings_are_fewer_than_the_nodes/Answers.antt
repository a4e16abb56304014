use Rattle.loose_walks.proofs.Nodes.{few_lowerings, few_lowerings_from}
use Rattle.loose_walks.proofs.laws.lowerings_are_fewer_than_the_nodes.Goals as goal

pub returns : goal.returns
returns c = record {
  vertex = λ net destination steps v f keeps e. few_lowerings net keeps destination steps v f e;
  start = λ net destination steps start f keeps e. few_lowerings_from net keeps destination steps start f e;
}
