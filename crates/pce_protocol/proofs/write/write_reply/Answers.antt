use Rattle.std.proofs.Common.{ap, ◌∙◌}
use Rattle.serde_json.specs.Written.{has_float, compact_text}
use Rattle.pce_protocol.proofs.NoFloats.{reply_no_float}
use Rattle.pce_protocol.proofs.write.write_reply.Goals as goal

pub returns : goal.returns
returns c =
    let e = c.in_ok-value.ensures in
    c.in_ok-to_vec.ensures.text (ap has_float e ∙ reply_no_float c.args.id.now c.args.reply.now) ∙ ap compact_text e
