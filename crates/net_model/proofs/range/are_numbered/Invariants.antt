use Rattle.net_model.proofs.NetworkNumberLemmas.{HasNumbered}
use Rattle.net_model.proofs.range.are_numbered.Given as goal

abbrev pub invariant-loop-s : goal.invariant-loop-s
invariant-loop-s l = HasNumbered l.title_count l.sids l.s-index l.next
