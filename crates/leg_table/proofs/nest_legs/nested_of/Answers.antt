use Rattle.std.proofs.Common.{ℕ, List, [], ◌∷◌, ◌++◌, ◌∙◌, ap}
use Rattle.leg_table.proofs.Stays.{nested_more}
use Rattle.leg_table.proofs.nest_legs.nested_of.Goals as goal

pub loop-n-preserved : goal.loop-n-preserved
loop-n-preserved c =
    nested_more c.args.net.now c.loop-n.n c.loop-n.nested.items c.push.new.self.items c.in_ok-units_nested_in.field-0.items
    c.loop-n.invariant c.in_ok-units_nested_in.ensures
    (c.in_ok-push.ensures.items ∙ ap (λ (us : List ℕ). c.loop-n.nested.items ++ us ∷ []) c.new.ensures)
