use Rattle.std.proofs.Common.{◌≡◌, drop}
use Rattle.std.specs.List.{find}
use Rattle.v6_addr.specs.Address.{is_inside}
use Rattle.segment_reading.proofs.asked.block_of.Given as goal

-- the blocks that are left say all
abbrev pub invariant-loop-n : goal.invariant-loop-n
invariant-loop-n l = find (λ b. is_inside l.prefix b.prefix) l.net.blocks ≡ find (λ b. is_inside l.prefix b.prefix) (drop l.n l.net.blocks)
