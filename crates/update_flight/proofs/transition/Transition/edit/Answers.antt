use Rattle.std.proofs.Common.{◌≡◌, ◌+◌, ℕ, Ok, subst, sym, ap, ◌∙◌}
use Rattle.update_flight.specs.Transition.{Transition, answer_of}
use Rattle.update_flight.specs.TransitionTerms.{IsPassed, transition_value}
use Rattle.update_flight.proofs.PassingPassed.{edit_passed}
use Rattle.update_flight.proofs.transition.Transition.edit.Goals as goal

pub invariant_of-self : goal.invariant_of-self
invariant_of-self c =
    let inside = c.self.inside in
    let t : Transition = transition_value inside.added.items inside.removed.items inside.done inside.early inside.packets in
    let is : Ok c.in-Ok.edit ≡ answer_of t =
    c.in-Ok.ensures.answer ∙ ap answer_of (sym c.in-Ok.ensures.same ∙ sym c.self.view_is) in
    subst (λ (n : ℕ). IsPassed inside.passed (record t { done = t.done + n })) (sym c.steps.ensures)
    (edit_passed inside.passed t c.in-Ok.edit c.self.invariant is)
