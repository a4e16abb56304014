use Rattle.std.proofs.Common.{sym, ◌∙◌}
use Rattle.v6_addr.specs.Address.{is_inside}
use Rattle.leg_table.proofs.StrictSearches.{one_found}
use Rattle.leg_table.proofs.sid_shapes.block_at.Goals as goal

pub returns-then-inside : goal.returns-then-inside
returns-then-inside c =
    one_found (λ b. is_inside c.args.prefix.now b.prefix) c.args.net.now.blocks c.loop-n.n c.block.result.now c.loop-n.invariant
    c.block.ensures (sym c.inside.ensures.test ∙ c.if-inside.true)
