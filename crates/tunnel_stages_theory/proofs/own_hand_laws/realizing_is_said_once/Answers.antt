use Rattle.tunnel_stages_theory.proofs.OwnHandRealizing.{realizes_once}
use Rattle.tunnel_stages_theory.proofs.own_hand_laws.realizing_is_said_once.Goals as goal

pub returns : goal.returns
returns c = realizes_once
