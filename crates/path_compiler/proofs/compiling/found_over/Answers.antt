use Rattle.std.proofs.Common.{subst}
use Rattle.net_model.specs.Network.{Network}
use Rattle.list_pack.specs.Meaning.{Means}
use Rattle.path_compiler.proofs.CompilerAnswering.{result_found}
use Rattle.path_compiler.proofs.compiling.found_over.Goals as goal

pub returns : goal.returns
returns g c =
    result_found _ c.args.net.now _ _ _ (subst
    (λ (n : Network). Means (g.L.Legs.seen c.args.legs.now) n (g.L.ListLegs.realizes c.args.legs.now)
    (g.L.ListLegs.executes c.args.legs.now) (g.L.ListLegs.hands c.args.legs.now)) c.requires.network c.keeps_meaning.ensures)
    c.args.reduced c.args.solution c.compiled_of.result c.requires.solution c.requires.path c.compiled_of.ensures
