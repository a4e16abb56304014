use Rattle.std.proofs.Common.{◌==◌, None, Some, Option, sym, ◌∙◌, ap, subst, arith}
use Rattle.std.specs.Option.{option_map}
use Rattle.std.specs.List.{slice_split}
use Rattle.list_certificate.specs.declared.item.Item.{Item}
use Rattle.list_certificate.specs.declared.line_words.Parts.{Parts}
use Rattle.list_certificate.specs.declared.draft.Draft.{Draft}
use Rattle.list_certificate.specs.CertificateReading.{Read, with_line, reads, read_of}
use Rattle.list_certificate.specs.CertificateReadingTerms.{GivesCertificate, read_value, read_values, cut_value}
use Rattle.list_certificate.proofs.OneReading.{IsRead, nothing_is_read, line_read, given_cert, reads_last, reads_line}
use Rattle.list_certificate.proofs.reader.read.Goals as goal

pub loop-parts-init : goal.loop-parts-init
unfolding read_of
loop-parts-init g c =
    let v = g.L.Legs.seen c.args.legs.now in (
      ap (λ (r : Read). reads c.args.net.now v (slice_split (λ b. b == 10) c.args.text.now) 1 r) c.new-draft.ensures,
      subst (IsRead v) (sym c.new-draft.ensures) (nothing_is_read v),
      omega arith,
    )

pub returns-in_default-clause-value : goal.returns-in_default-clause-value
returns-in_default-clause-value g c =
    let v = g.L.Legs.seen c.args.legs.now in
    let r = read_value c.loop-parts.draft in
    let none = sym c.cut.ensures.value ∙ ap (λ (o : Option Parts). option_map cut_value o) c.in_default.is in
    subst (GivesCertificate c.finished.result)
    (sym (reads_last c.args.net.now v c.loop-parts.rest.now c.loop-parts.line r none) ∙ c.loop-parts.invariant.0) c.finished.ensures

pub returns-in_default-clause-cert : goal.returns-in_default-clause-cert
returns-in_default-clause-cert g c =
    given_cert (g.L.Legs.seen c.args.legs.now) (read_value c.loop-parts.draft) c.loop-parts.line c.loop-parts.rest.now c.finished.result
    c.loop-parts.invariant.1 c.finished.ensures

pub returns-in-None-clause-value : goal.returns-in-None-clause-value
returns-in-None-clause-value g c =
    let v = g.L.Legs.seen c.args.legs.now in
    let r = read_value c.loop-parts.draft in
    let cut = sym c.cut.ensures.value ∙ ap (λ (o : Option Parts). option_map cut_value o) c.in-Some.is in
    let wrong = ap (λ (i : Item). with_line v r c.loop-parts.line i) (sym c.item_of-item.ensures.value) ∙ sym c.in_ok-more.ensures
    ∙ ap (λ (o : Option Draft). read_values o) c.in-None.is in
    sym c.loop-parts.invariant.0
    ∙ reads_line c.args.net.now v c.loop-parts.rest.now c.loop-parts.line r (cut_value c.in-Some.parts) None cut wrong

pub loop-parts-preserved : goal.loop-parts-preserved
loop-parts-preserved g c =
    let v = g.L.Legs.seen c.args.legs.now in
    let r = read_value c.loop-parts.draft in
    let next = read_value c.in-Some-2.more in
    let cut = sym c.cut.ensures.value ∙ ap (λ (o : Option Parts). option_map cut_value o) c.in-Some.is in
    let right = sym c.in_ok-more.ensures ∙ ap (λ (o : Option Draft). read_values o) c.in-Some-2.is in
    let with_it = ap (λ (i : Item). with_line v r c.loop-parts.line i) (sym c.item_of-item.ensures.value) ∙ right in (
      sym (reads_line c.args.net.now v c.loop-parts.rest.now c.loop-parts.line r (cut_value c.in-Some.parts) (Some next) cut with_it)
          ∙ c.loop-parts.invariant.0,
      line_read v r next c.loop-parts.line c.loop-parts.invariant.1 c.item_of-item.result c.item_of-item.ensures.state right,
      omega (arith, c.loop-parts.invariant.2, c.in-Some.ensures.shorter),
    )
