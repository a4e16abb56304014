use Rattle.std.proofs.Common.{◌≡◌, true, false, ◌∙◌, refl, sym, subst}
use Rattle.srv6_rules.specs.CompressedSteps.{is_replace}
use Rattle.srv6_rules.specs.Endpoint.{Endpoint}
use Rattle.srv6_rules.specs.Packet.{packet_at}
use Rattle.srv6_rules.proofs.PublicLaws.{known_packed, packed_steps}
use Rattle.ip6_headers.specs.ChainStepping.{place_view}
use Rattle.end_behaviours.specs.HeaderFinding.{header_of}
use Rattle.end_behaviours.specs.Onward.{IsEnd}
use Rattle.end_behaviours.proofs.EndLengthLemmas.{plain_or_next, whole_known}
use Rattle.end_behaviours.proofs.lengths.step_end.Goals as goal

pub returns-in-Replace : goal.returns-in-Replace
returns-in-Replace c = λ behind.
    let s = c.args.sid.now in
    let p = packet_at c.args.bytes.now in
    let h = header_of p (place_view c.args.place) c.args.len in
    let packed : is_replace s.csid ≡ true = rw c.in-Replace.is refl in
    let P : Endpoint → Type 0 = λ e. IsEnd s p h e c.packed_end.result in
    subst P (sym (known_packed s p h behind packed ∙ packed_steps s p h behind c.requires.goes_on)) (c.packed_end.ensures behind)

pub returns-in-Plain : goal.returns-in-Plain
returns-in-Plain c = λ behind.
    let s = c.args.sid.now in
    let p = packet_at c.args.bytes.now in
    let h = header_of p (place_view c.args.place) c.args.len in
    let whole : is_replace s.csid ≡ false = plain_or_next s.csid c.in-Plain.is in
    let P : Endpoint → Type 0 = λ e. IsEnd s p h e c.whole_end.result in
    subst P (sym (whole_known s p h behind whole c.requires.more c.requires.goes_on)) c.whole_end.ensures
