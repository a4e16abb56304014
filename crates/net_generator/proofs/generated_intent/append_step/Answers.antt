use Rattle.std.proofs.Common.{◌≡◌, ◌%◌, ◌==◌, true, false, arith}
use Rattle.std.proofs.lemmas.Grind.{common_steps}
use Rattle.net_generator.specs.Intents.{links_table}
use Rattle.net_generator.proofs.generated_intent.append_step.Goals as goal

pub returns-then-is_multiple_of : goal.returns-then-is_multiple_of
unfolding links_table
returns-then-is_multiple_of c =
    let third : (c.args.i % 3 == 0) ≡ true = grind (arith, common_steps, c.is_multiple_of.ensures, c.if-is_multiple_of.true) in
    rw third c.write.ensures.bytes

pub returns-else-is_multiple_of : goal.returns-else-is_multiple_of
unfolding links_table
returns-else-is_multiple_of c =
    let other : (c.args.i % 3 == 0) ≡ false = grind (arith, common_steps, c.is_multiple_of.ensures, c.if-is_multiple_of.false) in
    rw other c.write-else-is_multiple_of.ensures.bytes
