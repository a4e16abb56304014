use Rattle.std.proofs.Common.{◌∙◌}
use Rattle.segment_reading.proofs.Found.{full_found, full_lost}
use Rattle.segment_reading.proofs.reading.full_at.Goals as goal

pub returns-in_default : goal.returns-in_default
returns-in_default c = full_lost c.args.net.now c.requires.network c.requires.flat c.args.address.value c.in_default.ensures

pub returns : goal.returns
returns c =
    full_found c.args.net.now c.requires.network c.requires.flat c.args.address.value c.in-Some.first c.new.result c.in-Some.ensures
    (λ others is. c.new.ensures ∙ c.in_ok-more.ensures others is)
