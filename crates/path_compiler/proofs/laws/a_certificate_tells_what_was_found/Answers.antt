use Rattle.path_compiler.proofs.Certifying.{certifies_by, verdict_found, verdict_none}
use Rattle.path_compiler.proofs.laws.a_certificate_tells_what_was_found.Goals as goal

pub returns-clause-found : goal.returns-clause-found
returns-clause-found g c = λ reduced compiled found head.
    verdict_found (g.L.Legs.seen c.args.legs.now) (g.L.ListLegs.network c.args.legs.now) (g.L.ListLegs.realizes c.args.legs.now)
    (g.L.ListLegs.executes c.args.legs.now) (g.L.ListLegs.hands c.args.legs.now) c.keeps_meaning.ensures c.steps.ensures.laws reduced
    compiled found head

pub returns-clause-none : goal.returns-clause-none
returns-clause-none g c = λ s is empty head. verdict_none (g.L.Legs.seen c.args.legs.now) s head c.steps.ensures.laws is empty

pub returns-clause-answers : goal.returns-clause-answers
returns-clause-answers g c = λ intent answer answers.
    certifies_by (g.L.Legs.seen c.args.legs.now) (g.L.ListLegs.network c.args.legs.now) (g.L.ListLegs.realizes c.args.legs.now)
    (g.L.ListLegs.executes c.args.legs.now) (g.L.ListLegs.hands c.args.legs.now) (λ flat. (c.steps.ensures.laws, c.keeps_meaning.ensures))
    intent answer answers
