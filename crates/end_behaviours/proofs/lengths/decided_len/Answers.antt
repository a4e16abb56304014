use Rattle.srv6_rules.specs.Packet.{packet_at}
use Rattle.end_behaviours.specs.declared.end_headers.Decision.TheVariants.{Step}
use Rattle.end_behaviours.proofs.EndLengthLemmas.{length_earlier}
use Rattle.end_behaviours.proofs.TreatmentLemmas.{decided_as}
use Rattle.end_behaviours.proofs.lengths.decided_len.Goals as goal

pub returns-in-Step : goal.returns-in-Step
returns-in-Step c = λ first e within decided.
    let step = decided_as c.args.sid.now (packet_at c.args.bytes.now) first e c.args.decision (Step c.in-Step.place c.in-Step.len)
    c.in-Step.is decided in
    length_earlier first c.in-Step.place.at _ _ c.stepped_len.result step.header.later step.is (c.stepped_len.ensures step.behind)
