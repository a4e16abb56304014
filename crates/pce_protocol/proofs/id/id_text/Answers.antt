use Rattle.std.proofs.Common.{ap, ◌∙◌}
use Rattle.serde_json.specs.Written.{has_float, compact_text}
use Rattle.pce_protocol.proofs.NoFloats.{id_no_float}
use Rattle.pce_protocol.proofs.id.id_text.Goals as goal

pub returns : goal.returns
returns c =
    let e = c.in_ok-value.ensures in
    c.in_ok-to_vec.ensures.text (ap has_float e ∙ id_no_float c.args.id.now) ∙ ap compact_text e
