use Rattle.std.proofs.Common.{◌≡◌, true, ◌∙◌, refl}
use Rattle.srv6_rules.specs.CompressedSteps.{is_replace}
use Rattle.srv6_rules.specs.Packet.{packet_at}
use Rattle.srv6_rules.proofs.PublicLaws.{known_packed, packed_steps}
use Rattle.ip6_headers.specs.ChainStepping.{place_view}
use Rattle.end_behaviours.specs.HeaderFinding.{header_of}
use Rattle.end_behaviours.proofs.EndStepLemmas.{comes_same}
use Rattle.end_behaviours.proofs.writing.step_over.Goals as goal

pub returns-in-Replace-clause-outcome : goal.returns-in-Replace-clause-outcome
returns-in-Replace-clause-outcome c =
    let s = c.args.sid.now in
    let old = c.args.buf.now.bytes in
    let p = packet_at old in
    let h = header_of p (place_view c.args.place) c.args.len in
    let packed : is_replace s.csid ≡ true = rw c.in-Replace.is refl in
    λ behind. comes_same _ _ old c.step_packed.new.buf.bytes c.step_packed.result
    (known_packed s p h behind packed ∙ packed_steps s p h behind c.requires.goes_on) (c.step_packed.ensures.outcome behind)
