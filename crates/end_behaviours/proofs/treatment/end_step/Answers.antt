use Rattle.std.proofs.Common.{◌∙◌, refl, ap, sym, subst}
use Rattle.srv6_rules.specs.Chain.{ChainPlace}
use Rattle.srv6_rules.specs.ChainTerms.{StandsIn}
use Rattle.srv6_rules.specs.Packet.{Packet, packet_at}
use Rattle.srv6_rules.proofs.PublicLaws.{start_stands}
use Rattle.ip6_headers.specs.ChainStepping.{place_view}
use Rattle.end_behaviours.specs.declared.end_headers.Found.TheVariants.{Last, Decided}
use Rattle.end_behaviours.specs.HeaderFinding.{at_sid_from}
use Rattle.end_behaviours.proofs.EndStepLemmas.{comes_same}
use Rattle.end_behaviours.proofs.TreatmentLemmas.{found_in, sid_from, starts}
use Rattle.end_behaviours.proofs.treatment.end_step.Goals as goal

pub find-requires-clause-stands : goal.find-requires-clause-stands
find-requires-clause-stands c =
    let old = c.args.buf.now.bytes in
    let s = c.args.sid.now in
    let allow = c.args.allow.now in
    let place = place_view c.first.result in
    let named = c.next_header-next_header.ensures ∙ ap (λ (x : Packet). x.next_header) (c.over.ensures ∙ ap packet_at c.view.ensures) in
    let seen = c.view-2.result.now in
    let is = starts old seen _ place c.first.ensures named c.view-2.ensures in
    let P : ChainPlace → Type 0 = λ k. StandsIn (packet_at seen) k in
    subst P (sym is) (start_stands (packet_at seen))

pub returns-in-Last-clause-outcome : goal.returns-in-Last-clause-outcome
returns-in-Last-clause-outcome c =
    let old = c.args.buf.now.bytes in
    let s = c.args.sid.now in
    let allow = c.args.allow.now in
    let place = place_view c.first.result in
    let named = c.next_header-next_header.ensures ∙ ap (λ (x : Packet). x.next_header) (c.over.ensures ∙ ap packet_at c.view.ensures) in
    let is = starts old old _ place c.first.ensures named refl in
    let last = found_in s allow c.view-2.result.now old c.first.result.at place (Last c.in-Last.place c.in-Last.next) c.view-2.ensures
    c.in-Last.ensures in
    comes_same _ _ old c.step_without.new.buf.bytes c.step_without.result (sid_from s allow (packet_at old) place is ∙ last.is)
    c.step_without.ensures.outcome

pub carry_out-requires-clause-can : goal.carry_out-requires-clause-can
carry_out-requires-clause-can c =
    let old = c.args.buf.now.bytes in
    let s = c.args.sid.now in
    let allow = c.args.allow.now in
    let place = place_view c.first.result in
    let named = c.next_header-next_header.ensures ∙ ap (λ (x : Packet). x.next_header) (c.over.ensures ∙ ap packet_at c.view.ensures) in
    let found = found_in s allow c.view-2.result.now old c.first.result.at place (Decided c.in-Decided.decision) c.view-2.ensures
    c.in-Decided.ensures in
    (c.first.result.at, (at_sid_from s allow (packet_at old) place, found))

pub returns-in-Decided-clause-outcome : goal.returns-in-Decided-clause-outcome
returns-in-Decided-clause-outcome c =
    let old = c.args.buf.now.bytes in
    let s = c.args.sid.now in
    let allow = c.args.allow.now in
    let place = place_view c.first.result in
    let named = c.next_header-next_header.ensures ∙ ap (λ (x : Packet). x.next_header) (c.over.ensures ∙ ap packet_at c.view.ensures) in
    let is = starts old old _ place c.first.ensures named refl in
    let found = found_in s allow c.view-2.result.now old c.first.result.at place (Decided c.in-Decided.decision) c.view-2.ensures
    c.in-Decided.ensures in
    comes_same _ _ old c.carry_out.new.buf.bytes c.carry_out.result (sid_from s allow (packet_at old) place is)
    (c.carry_out.ensures.outcome c.first.result.at (at_sid_from s allow (packet_at old) place) found)
