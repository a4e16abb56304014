use Rattle.std.proofs.Common.{List, Option, sym, ◌∙◌, ap, subst}
use Rattle.std.specs.Prelude.{is_some, ℕ}
use Rattle.list_pack.specs.declared.types.Cost.{Cost}
use Rattle.list_pack.specs.Costs.{start}
use Rattle.list_certificate.specs.declared.certificate_types.PotentialLine.{PotentialLine}
use Rattle.list_certificate.specs.Certs.{potential_at}
use Rattle.list_certificate.specs.Tests.{FirstFault}
use Rattle.list_certificate.proofs.CertificateJudging.{bad_way}
use Rattle.list_certificate.proofs.certificate_judge.check.Goals as goal

pub verdict_on_path-requires-clause-pass : goal.verdict_on_path-requires-clause-pass
verdict_on_path-requires-clause-pass g c =
    subst (FirstFault (g.L.Legs.seen c.args.legs.now) c.args.cert.now) c.in_default.is c.first_fault.ensures

pub returns-in-None-potential : goal.returns-in-None-potential
returns-in-None-potential g c = (
  subst (FirstFault (g.L.Legs.seen c.args.legs.now) c.args.cert.now) c.in_default.is c.first_fault.ensures,
  ap (λ (o : Option ℕ). is_some o) c.in-Some-none.is,
  ap (λ (xs : List PotentialLine). potential_at xs start) (sym c.as_slice-lines.ensures) ∙ sym c.potential_at-potential.ensures
      ∙ c.in-None-potential.is,
)

pub returns-in-Some-potential : goal.returns-in-Some-potential
returns-in-Some-potential g c = (
  subst (FirstFault (g.L.Legs.seen c.args.legs.now) c.args.cert.now) c.in_default.is c.first_fault.ensures,
  bad_way (g.L.Legs.seen c.args.legs.now) c.args.cert.now c.args.cert.now.none c.in-Some-none.line c.in-Some-none.is
      (ap (λ (o : Option Cost). is_some o) (ap (λ (xs : List PotentialLine). potential_at xs start) (sym c.as_slice-lines.ensures)
      ∙ sym c.potential_at-potential.ensures
      ∙ c.in-Some-potential.is)),
)
