use Rattle.tunnel_walks_theory.proofs.TunnelRests.{goes_on_law, opens_on, first_end}
use Rattle.tunnel_walks_theory.proofs.laws.a_walk_goes_on_behind_its_first_execution.Goals as goal

pub returns-clause-on : goal.returns-clause-on
returns-clause-on g c =
    λ w n s pick taken g met. let r = goes_on_law w n s pick taken g met in (r.count, r.chosen, r.passes)

pub returns-clause-opened : goal.returns-clause-opened
returns-clause-opened g c =
    λ w n s pick taken g opened. let r = opens_on w n s pick taken g opened in (r.count, r.chosen, r.passes)

pub returns-clause-ends : goal.returns-clause-ends
returns-clause-ends g c = λ w n ts s e h. let r = first_end w n ts s e h in (r.first, r.gives, r.rest)
