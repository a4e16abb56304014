use Rattle.tunnel_stages_theory.proofs.OwnHandFirsts.{first_stages, first_walk}
use Rattle.tunnel_stages_theory.proofs.OwnHandRealizing.{hands_either, realizes_either, executes_either}
use Rattle.tunnel_stages_theory.proofs.own_hand_laws.without_binding_sids_hand_overs_are_the_first.Goals as goal

pub returns : goal.returns
returns c =
    record {
      stages = first_stages;
      walk = first_walk;
      hands = λ net intent segments inner hop choices none. hands_either net intent segments none inner hop choices;
      realizes = λ net intent segments need none. realizes_either net intent segments none need;
      executes = λ net intent segments count none. executes_either net intent segments none count;
    }
