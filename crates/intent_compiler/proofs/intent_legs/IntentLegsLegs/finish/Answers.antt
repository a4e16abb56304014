use Rattle.std.proofs.Common.{ap, ◌∙◌}
use Rattle.list_pack.specs.LegsValue.{LegsValue}
use Rattle.intent_compiler.proofs.IntentTables.{seen_strict}
use Rattle.intent_compiler.proofs.intent_legs.IntentLegsLegs.finish.Goals as goal

pub returns-in-Strict : goal.returns-in-Strict
returns-in-Strict c =
    c.finish.ensures
    ∙ ap (λ (v : LegsValue). v.finish c.args.position c.args.via c.args.next)
    (seen_strict c.self.inside.kind c.in-Strict.legs c.args.self.now c.self.view_is c.self.invariant c.in-Strict.is)
