use Rattle.std.proofs.Common.{string_bytes, arith}
use Rattle.net_generator.specs.Intents.{step_table}
use Rattle.net_generator.proofs.Growing.{written, ended, finished}
use Rattle.net_generator.proofs.generated_intent.append_steps.Goals as goal

pub loop-i-preserved : goal.loop-i-preserved
loop-i-preserved c =
    written step_table c.loop-i.i c.args.n (string_bytes c.loop-i.out) (string_bytes c.append_step.new.out) _
    (omega arith) c.in_ok-append_step.ensures c.loop-i.invariant

pub returns : goal.returns
returns c =
    ended step_table c.loop-i.i c.args.n (string_bytes c.loop-i.out) _ (omega arith) c.loop-i.invariant

pub returns-in_ok-append_step : goal.returns-in_ok-append_step
returns-in_ok-append_step c =
    finished step_table c.loop-i.i c.args.n (string_bytes c.loop-i.out) (string_bytes c.append_step.new.out) _
    (omega arith) (omega arith) c.in_ok-append_step.ensures c.loop-i.invariant
