use Rattle.std.proofs.Common.{sym, ◌∙◌, subst}
use Rattle.net_model.specs.Network.{Network}
use Rattle.list_pack.specs.Meaning.{Means}
use Rattle.path_compiler.proofs.CompilerAnswering.{no_list}
use Rattle.path_compiler.proofs.compiling.answer_over.Goals as goal

pub returns-then-is_empty : goal.returns-then-is_empty
returns-then-is_empty g c =
    no_list _ c.args.net.now _ _ _ (subst (λ (n : Network). Means (g.L.Legs.seen c.args.legs.now) n (g.L.ListLegs.realizes c.args.legs.now)
    (g.L.ListLegs.executes c.args.legs.now) (g.L.ListLegs.hands c.args.legs.now)) c.requires.network c.keeps_meaning.ensures)
    c.in-Ok.solution
    c.as_slice.result.now c.requires.whole c.requires.flat c.in-Ok.ensures.solution c.as_slice.ensures
    (sym c.is_empty.ensures ∙ c.if-is_empty.true)
