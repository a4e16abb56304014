use Rattle.std.proofs.Common.{sym, ◌∙◌}
use Rattle.segment_reading.proofs.Found.{none_spelled, other_spelled}
use Rattle.segment_reading.proofs.reading.list_of_segments.Goals as goal

pub returns-in-Ok-None : goal.returns-in-Ok-None
returns-in-Ok-None c =
    none_spelled c.args.net.now c.args.segments.now c.keeps_rules.ensures.network c.requires.flat
    (λ list at. sym c.in-Ok-None.field-0-is ∙ c.in-Ok-None.ensures list at)

pub returns-in-Ok-false : goal.returns-in-Ok-false
returns-in-Ok-false c =
    other_spelled c.args.net.now c.args.segments.now c.keeps_rules.ensures.network c.requires.flat _ c.in-Ok-false.field-0
    (λ list at. sym c.in-Ok-Some.field-0-is ∙ c.in-Ok-Some.ensures list at) c.in-Ok-false.field-0-test c.in-Ok-false.ensures
