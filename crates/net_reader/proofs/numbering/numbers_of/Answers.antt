use Rattle.std.proofs.Common.{◌+◌, map, take, sym, subst, ◌∙◌}
use Rattle.net_reader.specs.NumberingTerms.{HasNumbers}
use Rattle.net_reader.proofs.ReaderNumberLemmas.{known_turn, new_turn}
use Rattle.net_reader.proofs.numbering.numbers_of.Goals.{then-not-contains_key+in_ok-insert, else-not-contains_key}
use Rattle.net_reader.proofs.numbering.numbers_of.Goals as goal

pub loop-i-preserved : goal.loop-i-preserved
loop-i-preserved c = elim c.if-not-contains_key.branch [
  | then-not-contains_key+in_ok-insert w ↦
      new_turn c.loop-i.numbers _ c.if-not-contains_key.numbers c.args.names.now c.loop-i.i _ c.loop-i-test.true c.loop-i.invariant
      (sym c.contains_key.ensures ∙ w.if-not-contains_key.true) w.numbers-is w.in_ok-insert.ensures.updates
  | else-not-contains_key w ↦
      subst (λ m. HasNumbers m (map (λ s. s.now) (take (c.loop-i.i + 1) c.args.names.now))) (sym w.numbers-is)
      (known_turn c.loop-i.numbers c.args.names.now c.loop-i.i _ c.loop-i-test.true c.loop-i.invariant
      (sym c.contains_key.ensures ∙ w.if-not-contains_key.false))
]
