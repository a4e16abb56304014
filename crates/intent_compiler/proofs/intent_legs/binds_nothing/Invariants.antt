use Rattle.std.proofs.Common.{◌≡◌, ℕ, ◌<◌, false}
use Rattle.leg_table.specs.PositionSids.{is_binding}
use Rattle.intent_compiler.proofs.intent_legs.binds_nothing.Given as goal

abbrev pub invariant-loop-n : goal.invariant-loop-n
invariant-loop-n l = (k : ℕ) → k < l.n → is_binding l.net k ≡ false
