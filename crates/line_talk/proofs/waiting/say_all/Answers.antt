use Rattle.std.proofs.Common.{take, arith}
use Rattle.line_talk.proofs.Steps.{said_next, failed_after}
use Rattle.line_talk.proofs.waiting.say_all.Goals as goal

pub loop-said-preserved : goal.loop-said-preserved
loop-said-preserved g c =
    let back = c.split_at.ensures.back in
    record {
      within = omega (arith, c.in-Ok.ensures.1, c.split_at.ensures.back_len);
      told = said_next c.loop-said.said c.in-Ok.count c.args.bytes.now _ _ _ c.loop-said.invariant.told (rw back at c.in-Ok.ensures.2);
    }

pub returns-in-Err : goal.returns-in-Err
returns-in-Err g c = (c.loop-said.said, failed_after (take c.loop-said.said c.args.bytes.now) _ _ _ c.loop-said.invariant.told c.in-Err.ensures)
