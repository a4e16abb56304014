use Rattle.list_certificate.proofs.Showing.{shows}
use Rattle.list_certificate.proofs.laws.a_certificate_that_is_least_is_least.Goals as goal

pub returns : goal.returns
returns c = shows
