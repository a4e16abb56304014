use Rattle.std.proofs.Common.{inl, inr, sym, ◌∙◌, arith}
use Rattle.next_csid.proofs.ShiftLemmas.{argument_none}
use Rattle.segment_reading.proofs.full.next_at.Goals as goal
use Rattle.segment_reading.proofs.full.next_at.Goals.{then-argument_at-eq0-via-then-argument_at-eq0, then-argument_at-eq0-via-else-argument_at-eq0+then-len-bits, then-argument_at-eq0-via-else-argument_at-eq0+else-len-bits+then-len-eq128}

pub returns-then-argument_at-eq0 : goal.returns-then-argument_at-eq0
returns-then-argument_at-eq0 c = elim c.then-argument_at-eq0.branch [
  | then-argument_at-eq0-via-then-argument_at-eq0 w ↦ inl (sym c.argument_at.ensures ∙ w.if-argument_at-eq0.true)
  | then-argument_at-eq0-via-else-argument_at-eq0+then-len-bits w ↦ inr (omega arith)
  | then-argument_at-eq0-via-else-argument_at-eq0+else-len-bits+then-len-eq128 w ↦
      inl (sym (argument_none c.args.address.value c.args.prefix.now.len (omega arith)))
]
