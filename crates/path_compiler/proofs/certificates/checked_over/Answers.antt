use Rattle.path_compiler.proofs.CompilerChecking.{says_lists}
use Rattle.path_compiler.proofs.CompilerHanding.{says_over}
use Rattle.path_compiler.proofs.certificates.checked_over.Goals as goal

pub returns-clause-says : goal.returns-clause-says
returns-clause-says g c =
    says_lists (g.L.Legs.seen c.args.legs.now) (g.L.ListLegs.network c.args.legs.now) (g.L.ListLegs.realizes c.args.legs.now)
    (g.L.ListLegs.executes c.args.legs.now) (g.L.ListLegs.hands c.args.legs.now) c.keeps_meaning.ensures c.args.cert.now c.check.result
    c.steps.ensures.laws c.check.ensures

pub returns-clause-handing : goal.returns-clause-handing
returns-clause-handing g c =
    says_over (g.L.Legs.seen c.args.legs.now) (g.L.ListLegs.network c.args.legs.now) (g.L.ListLegs.realizes c.args.legs.now)
    (g.L.ListLegs.executes c.args.legs.now) (g.L.ListLegs.hands c.args.legs.now) c.keeps_meaning.ensures c.check.result
    (says_lists (g.L.Legs.seen c.args.legs.now) (g.L.ListLegs.network c.args.legs.now) (g.L.ListLegs.realizes c.args.legs.now)
    (g.L.ListLegs.executes c.args.legs.now) (g.L.ListLegs.hands c.args.legs.now) c.keeps_meaning.ensures c.args.cert.now c.check.result
    c.steps.ensures.laws c.check.ensures)
