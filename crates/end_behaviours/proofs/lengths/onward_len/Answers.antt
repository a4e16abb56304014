use Rattle.std.proofs.Common.{◌≡◌, ◌∙◌, ap, sym, subst, arith}
use Rattle.srv6_rules.specs.Chain.{ChainPlace, start_of}
use Rattle.srv6_rules.specs.ChainTerms.{StandsIn}
use Rattle.srv6_rules.specs.Packet.{Packet, packet_at}
use Rattle.srv6_rules.proofs.PublicLaws.{start_stands}
use Rattle.ip6_headers.specs.ChainStepping.{first_place, place_view}
use Rattle.end_behaviours.proofs.EndLengthLemmas.{length_earlier}
use Rattle.end_behaviours.proofs.TreatmentLemmas.{sid_from}
use Rattle.end_behaviours.proofs.lengths.onward_len.Goals as goal

pub len_from-requires-clause-stands : goal.len_from-requires-clause-stands
len_from-requires-clause-stands c =
    let p = packet_at c.args.bytes.now in
    let is : place_view c.first.result ≡ start_of p =
    c.first.ensures ∙ ap first_place (c.next_header-next_header.ensures ∙ ap (λ (x : Packet). x.next_header) c.over.ensures) in
    let P : ChainPlace → Type 0 = λ k. StandsIn p k in
    subst P (sym is) (start_stands p)

pub returns : goal.returns
returns c =
    let s = c.args.sid.now in
    let allow = c.args.allow.now in
    let p = packet_at c.args.bytes.now in
    let is : place_view c.first.result ≡ start_of p =
    c.first.ensures ∙ ap first_place (c.next_header-next_header.ensures ∙ ap (λ (x : Packet). x.next_header) c.over.ensures) in
    length_earlier 0 c.first.result.at _ _ c.len_from.result (omega arith) (sid_from s allow p (place_view c.first.result) is)
    c.len_from.ensures
