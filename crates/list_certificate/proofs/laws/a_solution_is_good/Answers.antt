use Rattle.list_certificate.proofs.Showing.{solution_cert, solution_accepted}
use Rattle.list_certificate.proofs.laws.a_solution_is_good.Goals as goal

pub returns-clause-is_cert : goal.returns-clause-is_cert
returns-clause-is_cert c = solution_cert

pub returns-clause-accepted : goal.returns-clause-accepted
returns-clause-accepted c = solution_accepted
