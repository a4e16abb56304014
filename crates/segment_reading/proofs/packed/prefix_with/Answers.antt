use Rattle.segment_reading.proofs.packed.prefix_with.Goals as goal

pub returns-then-has_csid : goal.returns-then-has_csid
returns-then-has_csid c = (c.has_csid.ensures.is_prefix, c.has_csid.ensures.fact.0 c.if-has_csid.true)
