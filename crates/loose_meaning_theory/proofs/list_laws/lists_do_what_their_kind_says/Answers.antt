use Rattle.loose_meaning_theory.proofs.LooseListRealizing.{executes_of, executes_to, hands_of, hands_to}
use Rattle.loose_meaning_theory.proofs.LooseListMeaning.{loose_realizes}
use Rattle.loose_meaning_theory.proofs.list_laws.lists_do_what_their_kind_says.Goals as goal

pub returns : goal.returns
returns c =
    record {
      realizes = loose_realizes;
      executes = λ net intent steps list count. (executes_to net intent steps list count, executes_of net intent steps list count);
      hands = λ net intent steps list hop. (hands_to net intent steps list hop, hands_of net intent steps list hop);
    }
