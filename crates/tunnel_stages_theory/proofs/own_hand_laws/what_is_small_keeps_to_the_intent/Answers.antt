use Rattle.tunnel_stages_theory.proofs.OwnHandSmalls.{small_keeps_law}
use Rattle.tunnel_stages_theory.proofs.own_hand_laws.what_is_small_keeps_to_the_intent.Goals as goal

pub returns : goal.returns
returns c = small_keeps_law
