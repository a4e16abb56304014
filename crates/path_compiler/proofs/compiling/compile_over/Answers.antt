use Rattle.std.proofs.Common.{subst}
use Rattle.net_model.specs.Network.{Network}
use Rattle.list_pack.specs.Meaning.{Means}
use Rattle.path_compiler.proofs.CompilerHanding.{none_less}
use Rattle.path_compiler.proofs.compiling.compile_over.Goals as goal

pub returns-clause-handing : goal.returns-clause-handing
returns-clause-handing g c =
    none_less _ c.args.net.now _ _ _ (subst (λ (n : Network). Means (g.L.Legs.seen c.args.legs.now) n
    (g.L.ListLegs.realizes c.args.legs.now)
    (g.L.ListLegs.executes c.args.legs.now) (g.L.ListLegs.hands c.args.legs.now)) c.requires.network c.keeps_meaning.ensures)
    c.args.intent.now c.answer_over.result c.answer_over.ensures
