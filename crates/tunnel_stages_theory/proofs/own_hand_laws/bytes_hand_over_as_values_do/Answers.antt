use Rattle.tunnel_stages_theory.proofs.Counted.{counted_own}
use Rattle.tunnel_stages_theory.proofs.OwnHandSmalls.{small_own}
use Rattle.tunnel_stages_theory.proofs.own_hand_laws.bytes_hand_over_as_values_do.Goals as goal

pub returns : goal.returns
returns c = record { free = counted_own; fits = small_own }
