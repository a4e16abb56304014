use Rattle.std.proofs.Common.{subst, sym, ap, ◌∙◌}
use Rattle.update_flight.specs.Transition.{Transition, edited}
use Rattle.update_plan.specs.UpdateState.{Update, tables_now}
use Rattle.update_plan.specs.UpdateStateTerms.{IsChanged, IsUpdate, whole}
use Rattle.update_plan.proofs.UpdateEdits.{can_edit, changed_tables, update_after}
use Rattle.update_plan.proofs.update.Update.edit.Goals as goal

pub change-requires : goal.change-requires
change-requires c = can_edit c.self.inside.net c.self.inside.transition c.self.invariant c.in-Ok.edit c.in-Ok.ensures.answer

pub invariant_of-self-in-Ok-change : goal.invariant_of-self-in-Ok-change
invariant_of-self-in-Ok-change c =
    let inside = c.self.inside in
    subst (λ (t : Transition). IsUpdate c.change.new.net t) (sym (c.edit.ensures.edited ∙ ap edited c.in-Ok.ensures.same))
    (update_after inside.net inside.transition c.self.invariant c.change.new.net c.in-Ok.edit c.in-Ok.ensures.answer
    c.in-Ok-change.ensures.ok)

pub returns-in-Ok-change-clause-changed : goal.returns-in-Ok-change-clause-changed
returns-in-Ok-change-clause-changed c =
    let inside = c.self.inside in
    let after : Transition → Update = λ t. record { joined = whole c.change.new.net; transition = t } in
    subst (λ (t : Transition). IsChanged c.in-Ok.edit (tables_now c.args.self.now) (tables_now (after t)))
    (sym (c.edit.ensures.edited ∙ ap edited c.in-Ok.ensures.same))
    (subst (λ (u : Update). IsChanged c.in-Ok.edit (tables_now u) (tables_now (after (edited inside.transition)))) c.self.view_is
    (changed_tables inside.net inside.transition c.self.invariant c.change.new.net c.in-Ok.edit c.in-Ok.ensures.answer
    c.in-Ok-change.ensures.ok))
