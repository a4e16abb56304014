use Rattle.v6_addr.specs.Address.{is_inside}
use Rattle.leg_table.proofs.StrictSearches.{NoneBefore}
use Rattle.leg_table.proofs.sid_shapes.block_at.Given as goal

abbrev pub invariant-loop-n : goal.invariant-loop-n
invariant-loop-n l = NoneBefore (λ b. is_inside l.prefix b.prefix) l.net.blocks l.n
