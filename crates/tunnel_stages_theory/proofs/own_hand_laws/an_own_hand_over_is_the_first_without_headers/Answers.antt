use Rattle.tunnel_stages_theory.proofs.OwnFirsts.{own_either}
use Rattle.tunnel_stages_theory.proofs.own_hand_laws.an_own_hand_over_is_the_first_without_headers.Goals as goal

pub returns : goal.returns
returns c = own_either
