use Rattle.std.proofs.Common.{◌+◌, ap, ◌∙◌, refl, arith}
use Rattle.update_flight.specs.Transition.{Transition, first_early}
use Rattle.update_flight.specs.TransitionTerms.{transition_value}
use Rattle.update_flight.proofs.PassingPassed.{next_fits, passed_first, passed_none}
use Rattle.update_flight.proofs.transition.Transition.first_early.Goals as goal

pub overflow_add-number : goal.overflow_add-number
overflow_add-number c =
    let inside = c.packets.self-inside in
    let t : Transition = transition_value inside.added.items inside.removed.items inside.done inside.early inside.packets in
    let few = next_fits inside.passed t c.packets.invariant.is c.packets-test.true in
    omega (arith, few)

pub returns-in-None-clause-first : goal.returns-in-None-clause-first
returns-in-None-clause-first c =
    let inside = c.packets.self-inside in
    let t : Transition = transition_value inside.added.items inside.removed.items inside.done inside.early inside.packets in
    passed_first inside.passed (inside.passed + 1) t c.packets.invariant.is c.packets-test.true refl c.in-None.ensures
    ∙ ap first_early c.packets.invariant.same

pub returns-clause-first : goal.returns-clause-first
returns-clause-first c =
    let inside = c.packets.self-inside in
    let t : Transition = transition_value inside.added.items inside.removed.items inside.done inside.early inside.packets in
    passed_none inside.passed t c.packets.invariant.is c.packets-test.false ∙ ap first_early c.packets.invariant.same
