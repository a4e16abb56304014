use Rattle.path_compiler.proofs.CompilerHanding.{says_over}
use Rattle.path_compiler.proofs.laws.what_is_said_holds_of_lists_that_hand_over.Goals as goal

pub returns : goal.returns
returns g c = λ verdict says.
    says_over (g.L.Legs.seen c.args.legs.now) (g.L.ListLegs.network c.args.legs.now) (g.L.ListLegs.realizes c.args.legs.now)
    (g.L.ListLegs.executes c.args.legs.now) (g.L.ListLegs.hands c.args.legs.now) c.keeps_meaning.ensures verdict says
