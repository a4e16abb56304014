use Rattle.list_certificate.proofs.OneVerdict.{one_verdict}
use Rattle.list_certificate.proofs.laws.a_certificate_has_one_verdict.Goals as goal

pub returns : goal.returns
returns c = one_verdict
