use Rattle.path_compiler.proofs.OneAnswer.{answers_same}
use Rattle.path_compiler.proofs.laws.legs_have_one_answer.Goals as goal

pub returns : goal.returns
returns g c = λ intent a b.
    answers_same (g.L.Legs.seen c.args.legs.now) (g.L.ListLegs.network c.args.legs.now) (g.L.ListLegs.realizes c.args.legs.now)
    (g.L.ListLegs.executes c.args.legs.now) intent a b
