use Rattle.std.proofs.Common.{arith}
use Rattle.std.proofs.lemmas.Bool.{and_left, and_right, ne_eqb}
use Rattle.v6_addr.proofs.AddressReading.{gap_found, gap_not_yet, no_gap}
use Rattle.v6_addr.proofs.parse.find_gap.Goals as goal
use Rattle.v6_addr.proofs.parse.find_gap.Goals.{else-text-i-eq58-via-then-text-i-eq58+else-text-i-eq58-2, else-text-i-eq58-via-else-text-i-eq58}

pub returns-then-text-i-eq58-2-clause-value : goal.returns-then-text-i-eq58-2-clause-value
returns-then-text-i-eq58-2-clause-value c =
    gap_found _ _ (omega arith) (omega arith) c.loop-i.invariant c.if-text-i-eq58.true c.if-text-i-eq58-2.true

pub loop-i-preserved : goal.loop-i-preserved
loop-i-preserved c =
    gap_not_yet _ c.loop-i.i (omega arith) (omega arith) c.loop-i.invariant
    (elim c.else-text-i-eq58.branch [
      | else-text-i-eq58-via-then-text-i-eq58+else-text-i-eq58-2 w ↦ and_right _ _ (ne_eqb _ _ w.if-text-i-eq58-2.false)
      | else-text-i-eq58-via-else-text-i-eq58 w ↦ and_left _ _ (ne_eqb _ _ w.if-text-i-eq58.false)
    ])

pub returns-clause-value : goal.returns-clause-value
returns-clause-value c = no_gap _ c.loop-i.i (omega arith) (omega arith) c.loop-i.invariant
